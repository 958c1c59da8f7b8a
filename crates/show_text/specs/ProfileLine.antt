-- The two parts of the line of a profile.
use Rattle.std.specs.Prelude.{ℕ, List, ◌++◌, codes}
use Rattle.std.specs.Fmt.{decimal, signed_decimal}
use Rattle.schema.specs.Messages.{profile}
use Rattle.schema.specs.Shape.{Value}
use Rattle.shown.specs.Direct.{direct}
use Rattle.shown.specs.Quoted.{hex_text, quoted}
use Rattle.shown.specs.ShowText.{type_text}

-- its place, its types and its period
abbrev pub profile_front : ℕ → Value (direct profile) → List ℕ
profile_front n p = let period = p.1.1.1.1 in
    codes "    profile " ++ (decimal n ++ (codes " type " ++ (type_text p.0 ++ (codes " period " ++ (type_text period.0 ++ (codes " " ++ signed_decimal period.1.0))))))

-- all else
abbrev pub profile_back : Value (direct profile) → List ℕ
profile_back p = let last = p.1.1.1.1.1.1 in
    codes " time " ++ (decimal p.1.1.0 ++ (codes " duration " ++ (decimal p.1.1.1.0 ++ (codes " id " ++ (hex_text last.0
    ++ (codes " dropped " ++ (decimal last.1.0 ++ (codes " format " ++ (quoted last.1.1.0 ++ (codes " payload " ++ (hex_text last.1.1.1.0 ++ codes "\n")))))))))))
