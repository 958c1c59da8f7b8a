-- When a text is shown, and what a sink took of it.
use Rattle.std.specs.Prelude.{◌≡◌, ◌<◌, ◌≤◌, ◌⊎◌, ℕ, List, length, Option, Result, Ok, Err}
use Rattle.outside.specs.Causes.{Rose}
use Rattle.outside.specs.Streams.{TookPrefix}
use Rattle.outside.specs.declared.fault.IoFault.{IoFault}
use Rattle.outside.specs.declared.fault.IoFault.TheVariants as io
use Rattle.outside.specs.declared.fault.IoFault.TheVariants.{Failed}
use Rattle.show_text.specs.declared.fault.ShowFault.{ShowFault}
use Rattle.show_text.specs.declared.fault.ShowFault.TheVariants.{ShowLimit, WriteFault, NoMemory}

-- the greatest number of bytes of a text that is shown
abbrev pub show_limit : ℕ
show_limit = 1073741824

-- a text is refused exactly where it is too long, with its length
abbrev pub IsShowFault : List ℕ → ShowFault → Type 0
IsShowFault text (ShowLimit len) = (len ≡ length text) × (show_limit < length text)
IsShowFault text WriteFault = length text ≤ show_limit
IsShowFault text NoMemory = Unit {0}

-- what a sink took of a text that is not shown, or not whole: nothing of one that is too long, and else not all
abbrev pub TookPart : List ℕ → Option (List ℕ) → Option (List ℕ) → ShowFault → Type 0
TookPart text old new (ShowLimit len) = new ≡ old
TookPart text old new WriteFault = TookPrefix text old new
TookPart text old new NoMemory = (new ≡ old) ⊎ ((length text ≤ show_limit) × TookPrefix text old new)

-- a write fault comes only where the count rose, and every other answer leaves the count
abbrev pub ShowCounted : {T : Type 0} → ℕ → ℕ → Result T ShowFault → Type 0
ShowCounted before now (Ok _) = now ≡ before
ShowCounted before now (Err (ShowLimit len)) = now ≡ before
ShowCounted before now (Err WriteFault) = Rose before now
ShowCounted before now (Err NoMemory) = now ≡ before

-- it is no fault of the sink
abbrev pub IsNoWriteFault : ShowFault → Type 0
IsNoWriteFault (ShowLimit len) = Unit {0}
IsNoWriteFault WriteFault = ⊥
IsNoWriteFault NoMemory = Unit {0}

-- what a sink took of a text that is not written whole: not all; or, if memory ran out, maybe nothing
abbrev pub PartBy : List ℕ → Option (List ℕ) → Option (List ℕ) → IoFault → Type 0
PartBy text old new Failed = TookPrefix text old new
PartBy text old new io.NoMemory = (new ≡ old) ⊎ TookPrefix text old new
