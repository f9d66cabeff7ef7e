-- A read answers what the reader of the file answered, less what it hands on: of a device the number of its locations, of a program nothing. Where the
-- reader refuses the refusal is the promise's.
use mathlib.Core.List.{List}
use mathlib.Core.Path.{◌≡◌, refl, ap}
use Prim.Native.Nat.{ℕ}
use Rattle.answers.specs.Check.{Check, ok, refused, ◌>>=◌, ◌>>◌, within}
use Rattle.answers.specs.declared.File.{File}
use Rattle.answers.specs.declared.File.TheVariants.{Device, Program}
use Rattle.rules.specs.declared.device.DeviceHeader.{DeviceHeader}
use Rattle.rules.specs.Device.{read_device}
use Rattle.rules.specs.Syntax.{Program as Tree}
use Rattle.rules.specs.Program.{read_program}
use Rattle.rules.specs.Promises.{read_device_of, read_program_of}
use Rattle.device.specs.Reader.{device_read}

-- what a check gives, taken by v
abbrev pub taken : {B C : Type 0} → (B → C) → Check B → Check C
taken v (ok b) = ok (v b)
taken v (refused r) = refused r

-- the reader hands on k of what it reads, and the call answers v of that
handed_on : {A B C : Type 0} (f : File) (m : Check A) (k : A → B) (v : B → C) {said : Check B} → said ≡ within f (m >>= λ a. ok (k a))
    → taken v said ≡ (within f m >>= λ a. ok (v (k a)))
unfolding ◌>>=◌
handed_on f (ok a) k v e = ap (taken v) e
handed_on f (refused r) k v e = ap (taken v) e

pub device_said : (s : List ℕ) {said : Check DeviceHeader} → said ≡ within Device (device_read s) → taken (λ h. h.locations) said ≡ read_device_of s
unfolding device_read
device_said s e = handed_on Device (read_device s) _ (λ h. h.locations) e

-- to forget what was read and then name the file, or the other way round
pub program_said : (s : List ℕ) → ◌≡◌ {A = Check (Unit {0})} (within (Program 0) (read_program s >> ok tt)) (read_program_of s)
unfolding ◌>>◌
program_said s = go (read_program s)
  where
    go : (m : Check Tree) → ◌≡◌ {A = Check (Unit {0})} (within (Program 0) (m >> ok tt)) (within (Program 0) m >> ok tt)
    go (ok a) = refl
    go (refused r) = refl
