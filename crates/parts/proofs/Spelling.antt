-- The text of the parts of records is their spelling.
use Rattle.std.proofs.Common.{◌≡◌, ℕ, List, [], ◌∷◌, ◌++◌, map, refl, sym, ap, ◌∙◌, append_assoc}
use Rattle.std.proofs.lemmas.List.{append-nil}
use Rattle.std.specs.List.{flat_map}
use Rattle.schema.specs.Shape.{Shape, IsMessage}
use Rattle.schema.specs.Messages.{profile, scope, resource, scope_profiles, resource_profiles}
use Rattle.schema.specs.Texts.{long_field, items_text}
use Rattle.meaning.specs.Tree.{Tree}
use Rattle.meaning.specs.Message.{record_text}
use Rattle.parts.specs.Parts.{RecordPart, ResourceBegins, ScopeBegins, Texts, with_part, texts_onto, no_texts, texts_of, parts_text}
use Rattle.parts.specs.Records.{holder, held, front, back, profile_part, scope_parts, resource_parts, parts_in, record_parts}
use Rattle.parts.proofs.Rows.{holder-text}

abbrev three : List ℕ → List ℕ → List ℕ → Texts
three p s r = record { profiles = p; scopes = s; resources = r }

onto-append : (ps qs : List RecordPart) (t : Texts) → texts_onto (ps ++ qs) t ≡ texts_onto ps (texts_onto qs t)
onto-append [] qs t = refl
onto-append (p ∷ ps) qs t = ap (with_part p) (onto-append ps qs t)

-- the records of a shape, each after its tag and length
abbrev texts : ℕ → Shape → List Tree → List ℕ
texts n k ts = items_text n (map (record_text k) ts)

of_profiles : (k : Shape) (ts : List Tree) (p s r : List ℕ) → texts_onto (map (profile_part k) ts) (three p s r) ≡ three (texts 2 k ts ++ p) s r
of_profiles k [] p s r = refl
of_profiles k (t ∷ ts) p s r =
    ap (with_part (profile_part k t)) (of_profiles k ts p s r) ∙ ap (λ x. three x s r) (sym (append_assoc (long_field 2 (record_text k t)) (texts 2 k ts) p))

of_scope : (h k : Shape) → IsMessage h → IsMessage k → (t : Tree) (s r : List ℕ)
    → texts_onto (scope_parts h k t) (three [] s r) ≡ three [] (long_field 2 (record_text (holder h k) t) ++ s) r
of_scope h k m n t s r =
    ap (with_part (ScopeBegins (front h t) (back t))) (of_profiles k (held t) [] s r)
    ∙ ap (λ z. three [] (long_field 2 (front h t ++ (z ++ back t)) ++ s) r) (append-nil (texts 2 k (held t)))
    ∙ ap (λ z. three [] (long_field 2 z ++ s) r) (sym (holder-text h k m n t))

of_scopes : (h k : Shape) → IsMessage h → IsMessage k → (ts : List Tree) (s r : List ℕ)
    → texts_onto (flat_map (scope_parts h k) ts) (three [] s r) ≡ three [] (texts 2 (holder h k) ts ++ s) r
of_scopes h k m n [] s r = refl
of_scopes h k m n (t ∷ ts) s r =
    onto-append (scope_parts h k t) (flat_map (scope_parts h k) ts) (three [] s r)
    ∙ ap (texts_onto (scope_parts h k t)) (of_scopes h k m n ts s r)
    ∙ of_scope h k m n t (texts 2 (holder h k) ts ++ s) r
    ∙ ap (λ x. three [] x r) (sym (append_assoc (long_field 2 (record_text (holder h k) t)) (texts 2 (holder h k) ts) s))

of_resource : (g h k : Shape) → IsMessage g → IsMessage h → IsMessage k → (t : Tree) (r : List ℕ)
    → texts_onto (resource_parts g h k t) (three [] [] r) ≡ three [] [] (long_field 1 (record_text (holder g (holder h k)) t) ++ r)
of_resource g h k l m n t r =
    ap (with_part (ResourceBegins (front g t) (back t))) (of_scopes h k m n (held t) [] r)
    ∙ ap (λ z. three [] [] (long_field 1 (front g t ++ (z ++ back t)) ++ r)) (append-nil (texts 2 (holder h k) (held t)))
    ∙ ap (λ z. three [] [] (long_field 1 z ++ r)) (sym (holder-text g (holder h k) l tt t))

of_resources : (g h k : Shape) → IsMessage g → IsMessage h → IsMessage k → (ts : List Tree)
    → texts_onto (parts_in g h k ts) no_texts ≡ three [] [] (texts 1 (holder g (holder h k)) ts)
of_resources g h k l m n [] = refl
of_resources g h k l m n (t ∷ ts) =
    onto-append (resource_parts g h k t) (parts_in g h k ts) no_texts
    ∙ ap (texts_onto (resource_parts g h k t)) (of_resources g h k l m n ts)
    ∙ of_resource g h k l m n t (texts 1 (holder g (holder h k)) ts)

-- with any shapes of resource, scope and profile
pub parts-text : (g h k : Shape) → IsMessage g → IsMessage h → IsMessage k → (ts : List Tree)
    → parts_text (parts_in g h k ts) ≡ items_text 1 (map (record_text (holder g (holder h k))) ts)
parts-text g h k l m n ts = ap (λ t. t.profiles ++ (t.scopes ++ t.resources)) (of_resources g h k l m n ts)

-- with the schema's
pub records-text : (xs : List Tree) → parts_text (record_parts xs) ≡ items_text 1 (map (record_text resource_profiles) xs)
records-text xs = parts-text resource scope profile tt tt tt xs
