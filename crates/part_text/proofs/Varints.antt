-- Varints that are put byte by byte.
use Rattle.std.proofs.Common.{◌≡◌, ℕ, ◌+◌, ◌/◌, ◌%◌, ◌<◌, ◌≤◌, List, ◌++◌, length, take, drop, set, sym, ap, subst, ◌∙◌, arith}
use Rattle.std.proofs.lemmas.List.{take_more_set, drop-set-lt}
use Rattle.schema.specs.Texts.{varint}
use Rattle.schema_laws.proofs.Onto.{varint_small, varint_onto}
use Rattle.part_text.specs.Writes.{IsPutBefore}
use Rattle.part_text.proofs.Writes.{drop_later, put_is}

-- a byte that goes on
pub byte_put : (bytes front : List ℕ) (place n : ℕ) → place < length bytes → 128 ≤ n → take place bytes ++ varint n ≡ front
    → take (place + 1) (set bytes place (n % 128 + 128)) ++ varint (n / 128) ≡ front
byte_put bytes front place n l g e =
    ap (λ x. x ++ varint (n / 128)) (take_more_set bytes place (n % 128 + 128) l) ∙ varint_onto (take place bytes) n g ∙ e

-- what is after a byte
pub byte_after : (bytes old : List ℕ) (place y : ℕ) → drop place bytes ≡ drop place old → drop (place + 1) (set bytes place y) ≡ drop (place + 1) old
byte_after bytes old place y e = drop-set-lt (place + 1) bytes place y (omega arith) ∙ drop_later bytes old place (place + 1) (omega arith) e

-- the last byte
pub last_put : (bytes old : List ℕ) (at place n end : ℕ) (text : List ℕ) → place < length bytes → at ≤ length old → n < 128
    → take place bytes ++ varint n ≡ take at old ++ text → drop place bytes ≡ drop place old → place + 1 ≡ end → end ≡ at + length text
    → IsPutBefore old (set bytes place n) text at end
last_put bytes old at place n end text l k s e f g h =
    let m : place + 1 ≡ at + length text = g ∙ h in
    subst (IsPutBefore old (set bytes place n) text at) g
    (put_is old (set bytes place n) at (place + 1) text k m
    (take_more_set bytes place n l ∙ ap (λ x. take place bytes ++ x) (sym (varint_small n s)) ∙ e)
    (byte_after bytes old place n f))
