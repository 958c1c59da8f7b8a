-- The texts of parts are no longer than the text of all.
use Rattle.std.proofs.Common.{◌≡◌, ℕ, zero, suc, ◌+◌, ◌<◌, ◌≤◌, List, [], ◌∷◌, ◌++◌, length, map, get_or, arith, length-append}
use Rattle.std.specs.List.{flat_map}
use Rattle.schema.specs.Texts.{long_field}
use Rattle.schema_laws.proofs.Lengths.{long_field_le}
use Rattle.parts.specs.Parts.{RecordPart, ResourceBegins, ScopeBegins, ProfileText, Texts, no_texts, parts_text, payload, texts_of, texts_onto, with_part}
use Rattle.draft_records.specs.Marks.{back_of, front_of}
use Rattle.draft_contents.specs.Adding.{AreShorter}

abbrev total : Texts → ℕ
total t = length t.profiles + length t.scopes + length t.resources

-- with one part more the texts are no shorter, also than the part's own
part_more : (p : RecordPart) (t : Texts) → (total t ≤ total (with_part p t)) × (length (front_of p) + length (back_of p) ≤ total (with_part p t))
part_more (ProfileText p) t =
    let a = length-append (long_field 2 p) t.profiles in
    let b = long_field_le 2 p in (omega (arith, a, b), omega (arith, a, b))
part_more (ScopeBegins f b) t =
    let q : List ℕ = payload (ScopeBegins f b) t in
    let l = long_field_le 2 q in
    let a = length-append (long_field 2 q) t.scopes in
    let d = length-append f (t.profiles ++ b) in
    let e = length-append t.profiles b in (omega (arith, l, a, d, e), omega (arith, l, a, d, e))
part_more (ResourceBegins f b) t =
    let q : List ℕ = payload (ResourceBegins f b) t in
    let l = long_field_le 1 q in
    let a = length-append (long_field 1 q) t.resources in
    let d = length-append f ((t.profiles ++ t.scopes) ++ b) in
    let e = length-append (t.profiles ++ t.scopes) b in
    let h = length-append t.profiles t.scopes in (omega (arith, l, a, d, e, h), omega (arith, l, a, d, e, h))

fronts_below : (n : ℕ) (ps : List RecordPart) (t : Texts) → total (texts_onto ps t) < n → AreShorter n ps
fronts_below n [] t l = tt
fronts_below n (p ∷ ps) t l = let m = part_more p (texts_onto ps t) in (omega (arith, m.1, l), fronts_below n ps t (omega (arith, m.0, l)))

pub fronts_short : (n : ℕ) (ps : List RecordPart) → length (parts_text ps) < n → AreShorter n ps
fronts_short n ps l =
    let t = texts_of ps in fronts_below n ps no_texts (omega (arith, l, length-append t.profiles (t.scopes ++ t.resources), length-append t.scopes t.resources))

-- ---- some of the parts

pub shorter_behind : (n : ℕ) (ps qs : List RecordPart) → AreShorter n (ps ++ qs) → AreShorter n qs
shorter_behind n [] qs h = h
shorter_behind n (p ∷ ps) qs h = shorter_behind n ps qs h.1

pub shorter_before : (n : ℕ) (ps qs : List RecordPart) → AreShorter n (ps ++ qs) → AreShorter n ps
shorter_before n [] qs h = tt
shorter_before n (p ∷ ps) qs h = (h.0, shorter_before n ps qs h.1)

-- those of one record among others, each seen by `view` and with its new indexes by `move`
pub record_shorter : {X Y Z : Type 0} (n : ℕ) (parts : Z → List RecordPart) (move : Y → Z) (view : X → Y) (xs : List X) (i : ℕ) (x : X)
    → i < length xs → x ≡ get_or xs i x → AreShorter n (flat_map parts (map move (map view xs))) → AreShorter n (parts (move (view x)))
record_shorter n parts move view [] i x l e h = absurd (omega arith)
record_shorter n parts move view (y ∷ ys) zero x l e h = rw e (shorter_before n (parts (move (view y))) (flat_map parts (map move (map view ys))) h)
record_shorter n parts move view (y ∷ ys) (suc i) x l e h =
    record_shorter n parts move view ys i x (omega arith) e (shorter_behind n (parts (move (view y))) (flat_map parts (map move (map view ys))) h)

-- and that of one profile
pub profile_shorter : {X Y Z : Type 0} (n : ℕ) (part : Z → RecordPart) (move : Y → Z) (view : X → Y) (xs : List X) (i : ℕ) (x : X)
    → i < length xs → x ≡ get_or xs i x → AreShorter n (map part (map move (map view xs))) → length (front_of (part (move (view x)))) + length (back_of (part (move (view x)))) < n
profile_shorter n part move view [] i x l e h = absurd (omega arith)
profile_shorter n part move view (y ∷ ys) zero x l e h = rw e h.0
profile_shorter n part move view (y ∷ ys) (suc i) x l e h = profile_shorter n part move view ys i x (omega arith) e h.1
