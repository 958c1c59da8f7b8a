-- A record's spelling in its three rows.
use Rattle.std.proofs.Common.{◌≡◌, ℕ, List, [], ◌∷◌, ◌++◌, map, refl, sym, ap, ◌∙◌}
use Rattle.std.proofs.lemmas.List.{append-nil}
use Rattle.schema.specs.Shape.{Shape, End, One, Many, IsMessage, Value}
use Rattle.schema.specs.Texts.{bytes_field, items_text}
use Rattle.schema.specs.Spell.{spell, spell_one, spell_many}
use Rattle.meaning.specs.Tree.{Tree, value, head_of, octets_of, tail_of}
use Rattle.meaning.specs.Message.{record_text}
use Rattle.meaning.proofs.Places.{map-map}
use Rattle.parts.specs.Records.{holder, held, front, back}

-- a message in a singular row
pub one-text : (h : Shape) → IsMessage h → (n : ℕ) (v : Value h) → spell_one h (spell h) n v ≡ bytes_field n (spell h v)
one-text End m n v = refl
one-text (One i k rest) m n v = refl
one-text (Many i k rest) m n v = refl
one-text s m n v = absurd m

-- and messages in a repeated one
many-text : (k : Shape) → IsMessage k → (n : ℕ) (xs : List Tree) → spell_many k (spell k) n (map (value k) xs) ≡ items_text n (map (record_text k) xs)
many-text End m n xs = ap (items_text n) (map-map (value End) (spell End) xs)
many-text (One i k rest) m n xs = ap (items_text n) (map-map (value (One i k rest)) (spell (One i k rest)) xs)
many-text (Many i k rest) m n xs = ap (items_text n) (map-map (value (Many i k rest)) (spell (Many i k rest)) xs)
many-text s m n xs = absurd m

-- a record is its front, what it holds, and its back
pub holder-text : (h k : Shape) → IsMessage h → IsMessage k → (t : Tree)
    → record_text (holder h k) t ≡ front h t ++ (items_text 2 (map (record_text k) (held t)) ++ back t)
holder-text h k m n t =
    let a : spell_one h (spell h) 1 (value h (head_of t)) ≡ front h t = one-text h m 1 (value h (head_of t)) in
    let b : spell_many k (spell k) 2 (map (value k) (held t)) ≡ items_text 2 (map (record_text k) (held t)) = many-text k n 2 (held t) in
    let c : back t ++ [] ≡ back t = append-nil (back t) in
    ap (λ l. l ++ (spell_many k (spell k) 2 (map (value k) (held t)) ++ (back t ++ []))) a
    ∙ ap (λ l. front h t ++ (l ++ (back t ++ []))) b
    ∙ ap (λ l. front h t ++ (items_text 2 (map (record_text k) (held t)) ++ l)) c
