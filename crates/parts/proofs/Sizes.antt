-- The sums give the length of the text.
use Rattle.std.proofs.Common.{◌≡◌, ℕ, zero, suc, ◌+◌, ◌*◌, ◌<◌, ◌≤◌, List, [], ◌∷◌, ◌++◌, length, Option, Some, None, refl, sym, ap, ◌∙◌, subst, arith, append_assoc, length-append}
use Rattle.schema.specs.Texts.{long_field}
use Rattle.schema.specs.AnySpell.{long_length}
use Rattle.parts.specs.Parts.{RecordPart, ResourceBegins, ScopeBegins, ProfileText, Texts, with_part, texts_onto, texts_of, parts_text}
use Rattle.parts.specs.Sums.{Sums, scope_size, resource_size, sum_of, with_sum, sums_from, no_sums, sums_of}
use Rattle.parts.proofs.Lengths.{long_is, long_length_grows}

-- what the sums so far come to with the texts of the parts after them
abbrev whole : Sums → Texts → ℕ
whole s t = s.closed + resource_size s.resource (s.inner + scope_size s.scope (s.profiles + length t.profiles) + length t.scopes) + length t.resources

three : (f t b : List ℕ) → length (f ++ (t ++ b)) ≡ length f + length b + (0 + length t)
three f t b = omega (arith, length-append f (t ++ b), length-append t b)

one_part : (s : Sums) (p : RecordPart) (t : Texts) → whole s (with_part p t) ≡ whole (with_sum s p) t
one_part s (ProfileText p) t =
    let e : s.profiles + length (long_field 2 p ++ t.profiles) ≡ s.profiles + long_length 2 (length p) + length t.profiles =
    omega (arith, length-append (long_field 2 p) t.profiles, long_is 2 p (length p) refl) in
    ap (λ (n : ℕ). s.closed + resource_size s.resource (s.inner + scope_size s.scope n + length t.scopes) + length t.resources) e
one_part s (ScopeBegins f b) t =
    let l : length (long_field 2 (f ++ (t.profiles ++ b))) ≡ long_length 2 (length f + length b + (0 + length t.profiles)) =
    long_is 2 _ _ (three f t.profiles b) in
    let z : s.profiles + 0 ≡ s.profiles = omega arith in
    let e : s.inner + scope_size s.scope (s.profiles + 0) + length (long_field 2 (f ++ (t.profiles ++ b)) ++ t.scopes)
    ≡ s.inner + scope_size s.scope s.profiles + long_length 2 (length f + length b + (0 + length t.profiles)) + length t.scopes =
    rw z (omega (arith, length-append (long_field 2 (f ++ (t.profiles ++ b))) t.scopes, l)) in
    ap (λ (n : ℕ). s.closed + resource_size s.resource n + length t.resources) e
one_part s (ResourceBegins f b) t =
    let q : List ℕ = t.profiles ++ t.scopes in
    let m : length (f ++ (q ++ b)) ≡ length f + length b + (0 + (0 + length t.profiles) + length t.scopes) =
    omega (arith, three f q b, length-append t.profiles t.scopes) in
    let l : length (long_field 1 (f ++ (q ++ b))) ≡ long_length 1 (length f + length b + (0 + (0 + length t.profiles) + length t.scopes)) = long_is 1 _ _ m in
    let z : s.profiles + 0 ≡ s.profiles = omega arith in
    let y : s.inner + scope_size s.scope s.profiles + 0 ≡ s.inner + scope_size s.scope s.profiles = omega arith in
    rw (z, y) (omega (arith, length-append (long_field 1 (f ++ (q ++ b))) t.resources, l))

sums_from-texts : (ps : List RecordPart) (s : Sums) → whole s (texts_of ps) ≡ sum_of (sums_from s ps)
sums_from-texts [] s =
    let z : s.profiles + 0 ≡ s.profiles = omega arith in
    let y : s.inner + scope_size s.scope s.profiles + 0 ≡ s.inner + scope_size s.scope s.profiles = omega arith in
    rw (z, y) (omega arith)
sums_from-texts (p ∷ ps) s = one_part s p (texts_of ps) ∙ sums_from-texts ps (with_sum s p)

-- the length of the text is one sum of what is kept
pub text_size : (ps : List RecordPart) → length (parts_text ps) ≡ sum_of (sums_of ps)
text_size ps = omega (arith, sums_from-texts ps no_sums, length-append (texts_of ps).profiles ((texts_of ps).scopes ++ (texts_of ps).resources), length-append (texts_of ps).scopes (texts_of ps).resources)

-- more parts
pub sums_append : (ps qs : List RecordPart) (s : Sums) → sums_from s (ps ++ qs) ≡ sums_from (sums_from s ps) qs
sums_append [] qs s = refl
sums_append (p ∷ ps) qs s = sums_append ps qs (with_sum s p)

-- ---- growth

scope_size_grows : (o : Option ℕ) (a b : ℕ) → a ≤ b → scope_size o a ≤ scope_size o b
scope_size_grows None a b h = h
scope_size_grows (Some f) a b h = long_length_grows 2 (f + a) (f + b) (omega arith)

resource_size_grows : (o : Option ℕ) (a b : ℕ) → a ≤ b → resource_size o a ≤ resource_size o b
resource_size_grows None a b h = h
resource_size_grows (Some f) a b h = long_length_grows 1 (f + a) (f + b) (omega arith)

-- one more part makes no text shorter
part_grows : (s : Sums) (p : RecordPart) → sum_of s ≤ sum_of (with_sum s p)
part_grows s (ProfileText p) =
    let a : scope_size s.scope s.profiles ≤ scope_size s.scope (s.profiles + long_length 2 (length p)) = scope_size_grows s.scope _ _ (omega arith) in
    let b = resource_size_grows s.resource (s.inner + scope_size s.scope s.profiles) (s.inner + scope_size s.scope (s.profiles + long_length 2 (length p))) (omega arith) in
    omega arith
part_grows s (ScopeBegins f b) =
    let c = resource_size_grows s.resource (s.inner + scope_size s.scope s.profiles) (s.inner + scope_size s.scope s.profiles + scope_size (Some (length f + length b)) 0) (omega arith) in
    omega arith
part_grows s (ResourceBegins f b) = omega arith

sums_grow : (ps : List RecordPart) (s : Sums) → sum_of s ≤ sum_of (sums_from s ps)
sums_grow [] s = omega arith
sums_grow (p ∷ ps) s = omega (arith, part_grows s p, sums_grow ps (with_sum s p))

pub text_grows : (ps qs : List RecordPart) → length (parts_text ps) ≤ length (parts_text (ps ++ qs))
text_grows ps qs = omega (arith, text_size ps, text_size (ps ++ qs), ap sum_of (sums_append ps qs no_sums), sums_grow qs (sums_of ps))
