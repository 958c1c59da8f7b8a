-- A code for trees: the tokens that build one on a stack. A tree comes after what it is made of.
use Rattle.std.specs.Prelude.{◌≡◌, ℕ, zero, suc, ℤ, pos, List, [], ◌∷◌, ◌++◌, true, false, refl}
use Rattle.std.proofs.Common.{ap, ◌∙◌}
use Rattle.std.specs.Coded.{Coded, code_by, coded_list, coded×, coded_ℕ, coded_ℤ}
use Rattle.meaning.specs.Tree.{Tree, Natural, Integer, Boolean, Octets, Nil, Cons}

-- a token: its kind, its bytes and its number
abbrev pub Token : Type 0
Token = ℕ × (List ℕ × ℤ)

abbrev pub kind : ℕ → Token
kind n = (n, ([], pos 0))

abbrev pub tokens : Tree → List Token
tokens Nil = kind 0 ∷ []
tokens (Natural n) = (1, (n ∷ [], pos 0)) ∷ []
tokens (Integer z) = (2, ([], z)) ∷ []
tokens (Boolean true) = kind 3 ∷ []
tokens (Boolean false) = kind 4 ∷ []
tokens (Octets b) = (5, (b, pos 0)) ∷ []
tokens (Cons t u) = tokens t ++ (tokens u ++ kind 6 ∷ [])

-- ---- the stack

abbrev pub natural_of : List ℕ → Tree
natural_of (n ∷ b) = Natural n
natural_of [] = Nil

abbrev pub with_cons : List Tree → List Tree
with_cons (u ∷ (t ∷ stack)) = Cons t u ∷ stack
with_cons stack = stack

abbrev pub take_token : ℕ → List ℕ → ℤ → List Tree → List Tree
take_token zero b z stack = Nil ∷ stack
take_token (suc zero) b z stack = natural_of b ∷ stack
take_token (suc (suc zero)) b z stack = Integer z ∷ stack
take_token (suc (suc (suc zero))) b z stack = Boolean true ∷ stack
take_token (suc (suc (suc (suc zero)))) b z stack = Boolean false ∷ stack
take_token (suc (suc (suc (suc (suc zero))))) b z stack = Octets b ∷ stack
take_token (suc (suc (suc (suc (suc (suc n)))))) b z stack = with_cons stack

abbrev pub build : List Token → List Tree → List Tree
build [] stack = stack
build (s ∷ more) stack = build more (take_token s.0 s.1.0 s.1.1 stack)

-- the tree on the top
abbrev pub top : List Tree → Tree
top (t ∷ stack) = t
top [] = Nil

-- ---- a tree is what its tokens build

pub build_both : (a b : List Token) (stack : List Tree) → build (a ++ b) stack ≡ build b (build a stack)
build_both [] b stack = refl
build_both (s ∷ a) b stack = build_both a b (take_token s.0 s.1.0 s.1.1 stack)

pub built : (t : Tree) (stack : List Tree) → build (tokens t) stack ≡ t ∷ stack
built Nil stack = refl
built (Natural n) stack = refl
built (Integer z) stack = refl
built (Boolean true) stack = refl
built (Boolean false) stack = refl
built (Octets b) stack = refl
built (Cons t u) stack =
    build_both (tokens t) (tokens u ++ kind 6 ∷ []) stack
    ∙ ap (build (tokens u ++ kind 6 ∷ [])) (built t stack)
    ∙ build_both (tokens u) (kind 6 ∷ []) (t ∷ stack)
    ∙ ap with_cons (built u (t ∷ stack))

-- the code
abbrev pub tree_code : Coded Tree
tree_code = code_by (List Token) (coded_list (coded× coded_ℕ (coded× (coded_list coded_ℕ) coded_ℤ))) tokens (λ ts. top (build ts [])) (λ t. ap top (built t []))
