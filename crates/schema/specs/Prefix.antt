-- Lists that begin with others.
use Rattle.std.specs.Prelude.{◌≡◌, List, ◌++◌, length, drop}

-- the list `xs` begins with `front`
abbrev pub IsPrefix : {A : Type 0} → List A → List A → Type 0
IsPrefix front xs = xs ≡ front ++ drop (length front) xs
