-- Bytes that are put in place of others.
use Rattle.std.proofs.Common.{◌≡◌, ℕ, ◌+◌, ◌-◌, ◌≤◌, List, ◌++◌, length, take, drop, sym, ap, subst, ◌∙◌, arith, append_assoc, length-append}
use Rattle.std.proofs.lemmas.List.{length-take-le, take-append-drop, take_at, drop_at, drop-drop, take-take, drop-take}
use Rattle.part_text.specs.Writes.{IsPutBefore}

-- bytes that agree from a place on agree from a later one on
pub drop_later : (a b : List ℕ) (m n : ℕ) → m ≤ n → drop m a ≡ drop m b → drop n a ≡ drop n b
drop_later a b m n l e =
    let k : m + (n - m) ≡ n = omega arith in
    ap (λ (i : ℕ). drop i a) (sym k) ∙ sym (drop-drop (n - m) m a) ∙ ap (drop (n - m)) e ∙ drop-drop (n - m) m b ∙ ap (λ (i : ℕ). drop i b) k

-- bytes that agree up to a place agree up to an earlier one
pub take_earlier : (a b : List ℕ) (m n : ℕ) → m ≤ n → take n a ≡ take n b → take m a ≡ take m b
take_earlier a b m n l e = sym (take-take m n a l) ∙ ap (take m) e ∙ take-take m n b l

-- the same bytes of two that agree in front
pub same_block : (a b : List ℕ) (i k n : ℕ) → i + k ≤ n → take n a ≡ take n b → take k (drop i a) ≡ take k (drop i b)
same_block a b i k n l e = sym (drop-take i k a) ∙ ap (drop i) (take_earlier a b (i + k) n l e) ∙ drop-take i k b

-- a part of a block
part_of_block : (s : List ℕ) (i k n : ℕ) → i + k ≤ n → take k (drop i (take n s)) ≡ take k (drop i s)
part_of_block s i k n l = sym (drop-take i k (take n s)) ∙ ap (drop i) (take-take (i + k) n s l) ∙ drop-take i k s

-- bytes with a text where they have it
pub put_is : (old new : List ℕ) (at n : ℕ) (text : List ℕ) → at ≤ length old → n ≡ at + length text → take n new ≡ take at old ++ text → drop n new ≡ drop n old
    → IsPutBefore old new text at n
put_is old new at n text l e f g =
    let h : length (take at old) ≡ at = length-take-le at old l in
    let k : new ≡ take at old ++ (text ++ drop n old) =
    sym (take-append-drop n new) ∙ ap (λ x. x ++ drop n new) f ∙ ap (λ x. (take at old ++ text) ++ x) g ∙ append_assoc (take at old) text (drop n old) in
    record {
      ends = sym e;
      front = ap (take at) k ∙ take_at (take at old) (text ++ drop n old) at h;
      after = ap (drop at) k ∙ drop_at (take at old) (text ++ drop n old) at h;
    }

-- one text in front of the other
pub put_then : (a b c x y : List ℕ) (start middle end : ℕ) → IsPutBefore a b y middle end → IsPutBefore b c x start middle → IsPutBefore a c (x ++ y) start end
put_then a b c x y start middle end i j = record {
  ends = omega (arith, i.ends, j.ends, length-append x y);
  front = j.front ∙ take_earlier b a start middle (omega (arith, j.ends)) i.front;
  after = j.after ∙ ap (λ z. x ++ z) i.after ∙ sym (append_assoc x y (drop end a));
}

-- one more block is moved: what is left of a text, up to it, is where it was
pub block_moved : (old middle new : List ℕ) (from start end len left less count : ℕ) → less + count ≡ left → left ≤ len → from ≤ start
    → IsPutBefore old middle (drop left (take len (drop from old))) (start + left) end
    → IsPutBefore middle new (take count (drop (from + less) middle)) (start + less) (start + less + count)
    → IsPutBefore old new (drop less (take len (drop from old))) (start + less) end
block_moved old middle new from start end len left less count k l o i j =
    let s : List ℕ = take len (drop from old) in
    let here : take count (drop (from + less) middle) ≡ take count (drop less s) =
    same_block middle old (from + less) count (start + left) (omega arith) i.front
    ∙ ap (take count) (sym (drop-drop less from old))
    ∙ sym (part_of_block (drop from old) less count len (omega arith)) in
    let after : drop left s ≡ drop count (drop less s) = ap (λ (n : ℕ). drop n s) (sym k) ∙ sym (drop-drop count less s) in
    let text : take count (drop (from + less) middle) ++ drop left s ≡ drop less s =
    ap (λ z. z ++ drop left s) here ∙ ap (λ z. take count (drop less s) ++ z) after ∙ take-append-drop count (drop less s) in
    let there : start + less + count ≡ start + left = omega arith in
    subst (λ z. IsPutBefore old new z (start + less) end) text
    (put_then old middle new (take count (drop (from + less) middle)) (drop left s) (start + less) (start + left) end i
    (subst (λ (n : ℕ). IsPutBefore middle new (take count (drop (from + less) middle)) (start + less) n) there j))
