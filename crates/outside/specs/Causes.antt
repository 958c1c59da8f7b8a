-- When a call of the outside may answer a failure.
use Rattle.std.specs.Prelude.{◌≡◌, ◌≤◌, ◌+◌, ◌-◌, ◌^◌, ℕ, List, min, Result, Ok, Err}
use Rattle.outside.specs.declared.fault.IoFault.{IoFault}
use Rattle.outside.specs.declared.fault.IoFault.TheVariants.{Failed, NoMemory}

-- the count has not fallen, and it has risen unless it is at its type's end
abbrev pub Rose : ℕ → ℕ → Type 0
Rose before now = (before ≤ now) × (min (before + 1) (2 ^ 64 - 1) ≤ now)

-- the call of this name failed, as `failed` tells, and the count rose
abbrev pub FailedAt : (List ℕ → Type 0) → ℕ → ℕ → List ℕ → Type 0
FailedAt failed before now name = failed name × Rose before now

-- `Failed` comes only where the count rose in the call, and every other answer leaves the count
abbrev pub Counted : {T : Type 0} → ℕ → ℕ → Result T IoFault → Type 0
Counted before now (Ok _) = now ≡ before
Counted before now (Err Failed) = Rose before now
Counted before now (Err NoMemory) = now ≡ before

-- the call did not fail; it may have been out of memory
abbrev pub NeverFails : {T : Type 0} → Result T IoFault → Type 0
NeverFails (Ok _) = Unit {0}
NeverFails (Err Failed) = ⊥
NeverFails (Err NoMemory) = Unit {0}
