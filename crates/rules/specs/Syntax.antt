-- Programs as trees: one constructor for each meaning. Reading builds them; typing, commands and steps go over them.
use Rattle.std.specs.Prelude.{Bool, List, ℕ, get_or}

-- A place is a device location in main and a parameter number in a function: two types, and nothing compares the one with the other.
pub data Side : Type 0 where
  device parameter : Side

pub record Place (s : Side) : Type 0 where
  pub no : ℕ

abbrev pub location : ℕ → Place device
location l = record { no = l }

abbrev pub param : ℕ → Place parameter
param p = record { no = p }

-- the i-th of a call's places: what parameter i stands for in the call
abbrev pub at : {s : Side} → List (Place s) → ℕ → Place s
at ls i = get_or ls i (record { no = 0 })

pub data Preparation : Type 0 where
  plain magic : Preparation

-- What touches no block and no other function. Slots, gates and bases are numbers.
pub data Op (s : Side) : Type 0 where
  init : Preparation → ℕ → Place s → Op s
  free : ℕ → Op s
  gate : ℕ → ℕ → Op s
  measure : ℕ → ℕ → ℕ → Op s
  merge : ℕ → ℕ → ℕ → ℕ → ℕ → Op s
  new_ref get_ref set_ref : ℕ → ℕ → Op s
  constant : ℕ → Bool → Op s

-- A statement has its byte offset, and a block that of its length word.
mutual
  pub data Statement (s : Side) : Type 0 where
    op : ℕ → Op s → Statement s
    if : ℕ → ℕ → Block s → Block s → Statement s
    while : ℕ → ℕ → Block s → Statement s
    call : ℕ → ℕ → List (Place s) → List ℕ → Statement s

  pub data Statements (s : Side) : Type 0 where
    done : Statements s
    ◌⨾◌ : Statement s → Statements s → Statements s

  pub data Block (s : Side) : Type 0 where
    block : ℕ → Statements s → Block s

infixr 50 ◌⨾◌
-- k location parameters, of which the first m hold the arguments
pub record Function : Type 0 where
  pub k : ℕ
  pub m : ℕ
  pub body : Block parameter

abbrev pub function : List Function → ℕ → Function
function fs f = get_or fs f (record { k = 0; m = 0; body = block 0 done })

pub record Program : Type 0 where
  pub functions : List Function
  pub main : Block device
