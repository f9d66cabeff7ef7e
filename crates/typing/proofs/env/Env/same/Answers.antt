-- 18 and 19 ask for equal slots and equal places.
use Rattle.typing.proofs.EqualEnvs.{env_other_slots, env_same}
use Rattle.typing.proofs.env.Env.same.Goals as goal

pub returns-then-eq : goal.returns-then-eq
returns-then-eq c = λ d n Γ Δ is too. env_same is too c.eq.ensures c.if-eq.true c.same_places.ensures.same c.same_places.ensures.differ

pub returns-else-eq : goal.returns-else-eq
returns-else-eq c = λ d n Γ Δ is too. env_other_slots is too c.eq.ensures c.if-eq.false
