-- Cutting tables back to what they began with.
use Rattle.std.proofs.Common.{◌≡◌, ℕ, zero, suc, ◌+◌, ◌<◌, ◌≤◌, ◌^◌, List, [], ◌∷◌, length, take, get_or, refl, sym, ap, ◌∙◌, subst, arith}
use Rattle.std.specs.Prelude.{slice_get, slice_set, Some}
use Rattle.std.proofs.lemmas.List.{length-take}
use Rattle.std.proofs.lemmas.Grind.{get_or_default_zero}
use Rattle.schema.specs.Prefix.{IsPrefix}
use Rattle.key_tables.specs.Keys.{Keys, at, AreFew, ArePrefixes, CanBeCut, Counts, IsMark, cut_to, keys_text, lengths}
use Rattle.key_tables.proofs.Prefixes.{prefix_itself, prefix_over, prefix_length, prefix_taken}
use Rattle.schema.specs.Shape.{Mappings, Locations, Functions, Links, Strings, Attributes, Stacks}
use Rattle.key_tables.proofs.Places.{one_by_one, read_at}

-- ---- cut table by table

pub length-cut : (ns : List ℕ) (keys : Keys) → length (cut_to ns keys) ≡ length keys
length-cut [] keys = refl
length-cut (n ∷ ns) [] = refl
length-cut (n ∷ ns) (k ∷ ks) = ap suc (length-cut ns ks)

-- the tables from here on are not cut yet
pub not_yet : (ns : List ℕ) (keys : Keys) (i : ℕ) → get_or (cut_to (take i ns) keys) i [] ≡ get_or keys i []
not_yet ns keys zero = refl
not_yet [] keys (suc i) = refl
not_yet (n ∷ ns) [] (suc i) = refl
not_yet (n ∷ ns) (k ∷ ks) (suc i) = not_yet ns ks i

-- one table more
cut_one : (ns : List ℕ) (keys : Keys) (i : ℕ) → i < length ns
    → slice_set (cut_to (take i ns) keys) i (take (get_or ns i 0) (get_or keys i [])) ≡ cut_to (take (suc i) ns) keys
cut_one [] keys i l = absurd (omega (arith, l))
cut_one (n ∷ ns) [] zero l = refl
cut_one (n ∷ ns) (k ∷ ks) zero l = refl
cut_one (n ∷ ns) [] (suc i) l = refl
cut_one (n ∷ ns) (k ∷ ks) (suc i) l = ap (λ t. take n k ∷ t) (cut_one ns ks i (omega (arith, l)))

pub cut_more : (ns : List ℕ) (keys : Keys) (i : ℕ) → i < length ns
    → slice_set (cut_to (take i ns) keys) i (take (get_or ns i 0) (get_or keys i [])) ≡ cut_to (take (i + 1) ns) keys
cut_more ns keys i l = let e : suc i ≡ i + 1 = omega arith in cut_one ns keys i l ∙ ap (λ m. cut_to (take m ns) keys) e

-- as a loop goes: now the tables before i are cut, k is the table at i, and n the number of its keys that are to stay
module _ (ns : List ℕ) (keys now : Keys) (i : ℕ) (cut : now ≡ cut_to (take i ns) keys) (within : i < length ns) where
  pub now_within : length keys ≡ length ns → i < length now
  now_within l = omega (arith, l, within, ap length cut, length-cut (take i ns) keys)

  still : (k : List (List ℕ)) → slice_get now i ≡ Some k → k ≡ get_or keys i []
  still k e = read_at now i k e ∙ ap (λ x. get_or x i []) cut ∙ not_yet ns keys i

  number : (n : ℕ) → n ≡ get_or ns i n → n ≡ get_or ns i 0
  number n e = e ∙ get_or_default_zero ns i n within

  pub now_longer : (n : ℕ) (k : List (List ℕ)) → n ≡ get_or ns i n → slice_get now i ≡ Some k → ((place : ℕ) → get_or ns place 0 ≤ length (get_or keys place [])) → n ≤ length k
  now_longer n k e f h = omega (arith, number n e, ap length (still k f), h i)

  pub now_cut : (n : ℕ) (k k' : List (List ℕ)) → n ≡ get_or ns i n → slice_get now i ≡ Some k → k' ≡ take n k → slice_set now i k' ≡ cut_to (take (i + 1) ns) keys
  now_cut n k k' e f g =
      ap (slice_set now i) (g ∙ ap (λ m. take m k) (number n e) ∙ ap (take (get_or ns i 0)) (still k f))
      ∙ ap (λ x. slice_set x i (take (get_or ns i 0) (get_or keys i []))) cut ∙ cut_more ns keys i within

-- no table grows
cut_within : (ns : List ℕ) (keys : Keys) (place : ℕ) → length (get_or (cut_to ns keys) place []) ≤ length (get_or keys place [])
cut_within [] keys place = omega arith
cut_within (n ∷ ns) [] place = omega arith
cut_within (n ∷ ns) (k ∷ ks) zero = omega (arith, length-take n k)
cut_within (n ∷ ns) (k ∷ ks) (suc place) = cut_within ns ks place

pub few_cut : (ns : List ℕ) (keys : Keys) → AreFew keys → AreFew (cut_to ns keys)
few_cut ns keys f place = omega (arith, cut_within ns keys place, f place)

-- ---- what the tables began with

pub prefixes_itself : (keys : Keys) → ArePrefixes keys keys
prefixes_itself keys = record { many = refl; front = λ place. prefix_itself (get_or keys place []) }

pub prefixes_same : (base keys keys' : Keys) → keys' ≡ keys → ArePrefixes base keys → ArePrefixes base keys'
prefixes_same base keys keys' e b = subst (ArePrefixes base) (sym e) b

-- is what is left when they are cut to its numbers
pub prefixes_cut : (base keys : Keys) → ArePrefixes base keys → cut_to (lengths base) keys ≡ base
prefixes_cut base keys b = go base keys b.many b.front
  where
    go : (base keys : Keys) → length keys ≡ length base → ((place : ℕ) → IsPrefix (get_or base place []) (get_or keys place [])) → cut_to (lengths base) keys ≡ base
    go [] [] m f = refl
    go [] (k ∷ ks) m f = absurd (omega (arith, m))
    go (b ∷ bs) [] m f = absurd (omega (arith, m))
    go (b ∷ bs) (k ∷ ks) m f =
        let first : take (length b) k ≡ b = prefix_taken b k (f zero) in
        let rest : cut_to (lengths bs) ks ≡ bs = go bs ks (omega (arith, m)) (λ place. f (suc place)) in
        cc

-- so a mark of it is one to which they can be cut
lengths_at : (keys : Keys) (place : ℕ) → get_or (lengths keys) place 0 ≡ length (get_or keys place [])
lengths_at [] place = refl
lengths_at (k ∷ ks) zero = refl
lengths_at (k ∷ ks) (suc place) = lengths_at ks place

-- by which they are that again
pub cut_back : (base keys : Keys) (mark : Counts) → IsMark mark base → ArePrefixes base keys → cut_to mark.lengths keys ≡ base
cut_back base keys mark m b = ap (λ ns. cut_to ns keys) m.lengths ∙ prefixes_cut base keys b

pub can_be_cut : (base keys : Keys) (mark : Counts) → IsMark mark base → ArePrefixes base keys → CanBeCut mark keys
can_be_cut base keys mark m b = record {
  within = λ place. let l = prefix_length (get_or base place []) (get_or keys place []) (b.front place) in
      omega (arith, l, ap (λ ns. get_or ns place 0) m.lengths, lengths_at base place);
  is = m.len ∙ ap (λ k. length (keys_text k)) (sym (cut_back base keys mark m b));
  most = m.most;
}

-- what goes on from the middle goes on from the beginning
pub prefixes_over : (a b c : Keys) → ArePrefixes a b → ArePrefixes b c → ArePrefixes a c
prefixes_over a b c f g = record {
  many = g.many ∙ f.many;
  front = λ place. prefix_over (get_or a place []) (get_or b place []) (get_or c place []) (f.front place) (g.front place);
}

-- ---- the numbers of seven tables

pub count_at : (keys : Keys) (place : ℕ) (k : List (List ℕ)) (n : ℕ) → slice_get keys place ≡ Some k → n ≡ length k → n ≡ length (get_or keys place [])
count_at keys place k n e f = f ∙ ap length (read_at keys place k e)

pub seven_lengths : (keys : Keys) (a b c d e f g : ℕ) → length keys ≡ 7 → a ≡ length (at keys Mappings) → b ≡ length (at keys Locations) → c ≡ length (at keys Functions)
    → d ≡ length (at keys Links) → e ≡ length (at keys Strings) → f ≡ length (at keys Attributes) → g ≡ length (at keys Stacks)
    → a ∷ b ∷ c ∷ d ∷ e ∷ f ∷ g ∷ [] ≡ lengths keys
seven_lengths keys a b c d e f g seven ha hb hc hd he hf hg =
    let all : lengths keys ≡ length (at keys Mappings) ∷ length (at keys Locations) ∷ length (at keys Functions) ∷ length (at keys Links) ∷ length (at keys Strings)
    ∷ length (at keys Attributes) ∷ length (at keys Stacks) ∷ [] = ap lengths (one_by_one keys seven) in
    cc

-- ---- what is kept of tables that are cut

pub cut_measured : (ns : List ℕ) (len : ℕ) (keys new : Keys) (mark : Counts) (old : Keys) → record { lengths = ns; len = len } ≡ mark → keys ≡ old → CanBeCut mark old
    → new ≡ cut_to ns keys → AreFew keys → (len ≡ length (keys_text new)) × (len ≤ 2 ^ 62) × AreFew new
cut_measured ns len keys new mark old e f m g few =
    let a : ns ≡ mark.lengths = ap (λ x. x.lengths) e in
    let b : len ≡ mark.len = ap (λ x. x.len) e in
    let c : new ≡ cut_to mark.lengths old = g ∙ ap (λ x. cut_to x keys) a ∙ ap (cut_to mark.lengths) f in
    (b ∙ m.is ∙ sym (ap (λ k. length (keys_text k)) c), omega (arith, b, m.most), subst AreFew (sym g) (few_cut ns keys few))
