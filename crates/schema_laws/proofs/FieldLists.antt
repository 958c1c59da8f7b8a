-- Whole lists of fields.
use Rattle.std.proofs.Common.{◌≡◌, ℕ, zero, suc, ◌+◌, ◌-◌, ◌<◌, List, [], ◌∷◌, ◌++◌, length, Result, Ok, Err, refl, sym, ap, subst, ◌∙◌, arith, append_assoc, length-append}
use Rattle.schema.specs.Field.{Field}
use Rattle.schema.specs.Fault.{Reason}
use Rattle.schema.specs.Decoding.{Bad, Met, field_at, met, trace}
use Rattle.schema.specs.Spelling.{PlacedField, Spells, SpellsAt, SpellsField, fields_of, trace_of}
use Rattle.schema.specs.FirstFault.{BadField}
use Rattle.schema_laws.proofs.Results.{ok_is}
use Rattle.schema_laws.proofs.Traces.{trace_is, trace_end, fields}
use Rattle.schema_laws.proofs.OneField.{field_read, field_found, field_bad, field_some, bad_some, FieldFound}

-- a spelled field at the front is met
pub trace_one : (base : ℕ) (one rest : List ℕ) (f : Field) → SpellsField one f → trace base (one ++ rest) ≡ Met base (base + length one) f (trace (base + length one) rest)
trace_one base one rest f s =
    let some = field_some one f s in
    let len = length-append one rest in
    trace_is base (one ++ rest) (omega arith)
    ∙ ap (λ (r : Result (Field × List ℕ) Reason). met base (length (one ++ rest)) r trace) (field_read one f rest s)
    ∙ ap (λ (end : ℕ). Met base end f (trace end rest)) (let e : base + (length (one ++ rest) - length rest) ≡ base + length one = omega arith in e)

-- a bad field at the front is met
pub trace_bad : (base : ℕ) (bytes : List ℕ) (r : Reason) → BadField bytes r → trace base bytes ≡ Bad base r
trace_bad base bytes r b = trace_is base bytes (bad_some bytes r b) ∙ ap (λ (x : Result (Field × List ℕ) Reason). met base (length bytes) x trace) (field_bad bytes r b)

-- what a trace of bytes is, by its first field
pub data Start (base : ℕ) (bytes : List ℕ) : Type 0 where
  over : bytes ≡ [] → Start base bytes
  bad : (r : Reason) → BadField bytes r → trace base bytes ≡ Bad base r → Start base bytes
  met_one : (one rest : List ℕ) (f : Field) → bytes ≡ one ++ rest → SpellsField one f → length rest < length bytes
      → trace base bytes ≡ Met base (base + length one) f (trace (base + length one) rest) → Start base bytes

-- by what is found at the front
begins_with : (base : ℕ) (bytes : List ℕ) (r : Result (Field × List ℕ) Reason) → FieldFound bytes r → Start base bytes
begins_with base bytes (Ok x) s = Start.met_one s.0 x.1 x.0 s.1 s.2
    (let some = field_some s.0 x.0 s.2 in omega (arith, ap length s.1, length-append s.0 x.1))
    (ap (trace base) s.1 ∙ trace_one base s.0 x.1 x.0 s.2)
begins_with base bytes (Err r) b = Start.bad r b (trace_bad base bytes r b)

-- each trace begins so
pub begins : (base : ℕ) (bytes : List ℕ) → Start base bytes
begins base [] = Start.over refl
begins base (b ∷ bytes) = begins_with base (b ∷ bytes) (field_at (b ∷ bytes)) (field_found (b ∷ bytes) (omega arith))

-- ---- law A

-- fields that are spelled are met, each at its place
pub traced : (ps : List PlacedField) (base : ℕ) (bytes : List ℕ) → SpellsAt base bytes ps → trace base bytes ≡ trace_of ps
traced [] base bytes s = trace_end base bytes (ap length s)
traced (p ∷ ps) base bytes s =
    let e : trace base bytes ≡ Met base (base + length s.0) p.field (trace (base + length s.0) s.1) = ap (trace base) s.2 ∙ trace_one base s.0 s.1 p.field s.3 in
    let ih = traced ps (base + length s.0) s.1 s.6 in
    cc (e, ih, s.4, s.5)

-- fields that are met are spelled, by the first one
spelled_step : (base : ℕ) (bytes : List ℕ) (ps : List PlacedField) → Start base bytes
    → ((c : ℕ) (rest : List ℕ) (qs : List PlacedField) → length rest < length bytes → trace c rest ≡ trace_of qs → SpellsAt c rest qs)
    → trace base bytes ≡ trace_of ps → SpellsAt base bytes ps
spelled_step base bytes [] (Start.over e) ih t = e
spelled_step base bytes (p ∷ ps) (Start.over e) ih t = let d = trace_end base bytes (ap length e) in absurd (cc (d, t))
spelled_step base bytes [] (Start.bad r b e) ih t = absurd (cc (e, t))
spelled_step base bytes (p ∷ ps) (Start.bad r b e) ih t = absurd (cc (e, t))
spelled_step base bytes [] (Start.met_one one rest f is s lt e) ih t = absurd (cc (e, t))
spelled_step base bytes (p ∷ ps) (Start.met_one one rest f is s lt e) ih t =
    let at : p.at ≡ base = cc (e, t) in
    let end : p.end ≡ base + length one = cc (e, t) in
    let same : f ≡ p.field = cc (e, t) in
    let more : trace (base + length one) rest ≡ trace_of ps = cc (e, t) in
    (one, rest, is, subst (SpellsField one) same s, at, end, ih (base + length one) rest ps lt more)

-- for texts up to a length
spelled_upto : (k base : ℕ) (bytes : List ℕ) (ps : List PlacedField) → length bytes < k → trace base bytes ≡ trace_of ps → SpellsAt base bytes ps
spelled_upto zero base bytes ps lt t = absurd (omega arith)
spelled_upto (suc k) base bytes ps lt t = spelled_step base bytes ps (begins base bytes) (λ c rest qs less u. spelled_upto k c rest qs (omega arith) u) t

-- fields that are met to the end are spelled
pub spelled : (base : ℕ) (bytes : List ℕ) (ps : List PlacedField) → trace base bytes ≡ trace_of ps → SpellsAt base bytes ps
spelled base bytes ps t = spelled_upto (suc (length bytes)) base bytes ps (omega arith) t

-- ---- places

-- fields that are spelled lie at places
pub placed : (fs : List Field) (base : ℕ) (bytes : List ℕ) → Spells bytes fs → (ps : List PlacedField) × SpellsAt base bytes ps × (fields_of ps ≡ fs)
placed [] base bytes s = ([], s, refl)
placed (f ∷ fs) base bytes s =
    let r = placed fs (base + length s.0) s.1 s.4 in
    (record { at = base; end = base + length s.0; field = f } ∷ r.0, (s.0, s.1, s.2, s.3, refl, refl, r.1), ap (λ (l : List Field). f ∷ l) r.2)

-- and fields at places are spelled
pub unplaced : (ps : List PlacedField) (base : ℕ) (bytes : List ℕ) → SpellsAt base bytes ps → Spells bytes (fields_of ps)
unplaced [] base bytes s = s
unplaced (p ∷ ps) base bytes s = (s.0, s.1, s.2, s.3, unplaced ps (base + length s.0) s.1 s.6)

-- fields that are spelled are met
pub read_spelled : (base : ℕ) (bytes : List ℕ) (fs : List Field) → Spells bytes fs → (ps : List PlacedField) × (trace base bytes ≡ trace_of ps) × (fields_of ps ≡ fs)
read_spelled base bytes fs s = let r = placed fs base bytes s in (r.0, traced r.0 base bytes r.1, r.2)

-- ---- one spelling of fields at most

-- the first of the fields is read
field_from : (bytes : List ℕ) (f : Field) (fs : List Field) → (s : Spells bytes (f ∷ fs)) → field_at bytes ≡ Ok (f, s.1)
field_from bytes f fs s = ap field_at s.2 ∙ field_read s.0 f s.1 s.3

-- no bytes spell no field
none_left : (bytes : List ℕ) (f : Field) (fs : List Field) → bytes ≡ [] → Spells bytes (f ∷ fs) → ⊥
none_left bytes f fs n s = let some = field_some s.0 f s.3 in absurd (omega (arith, ap length n, ap length s.2, length-append s.0 s.1))

-- bytes spell one field list
pub one_spelling : (bytes : List ℕ) (fs gs : List Field) → Spells bytes fs → Spells bytes gs → fs ≡ gs
one_spelling bytes [] [] a b = refl
one_spelling bytes [] (g ∷ gs) a b = absurd (none_left bytes g gs a b)
one_spelling bytes (f ∷ fs) [] a b = absurd (none_left bytes f fs b a)
one_spelling bytes (f ∷ fs) (g ∷ gs) a b =
    let both = ok_is (f, a.1) (g, b.1) (sym (field_from bytes f fs a) ∙ field_from bytes g gs b) in
    let same = ap (λ (x : Field × List ℕ). x.0) both in
    let left = ap (λ (x : Field × List ℕ). x.1) both in
    let ih = one_spelling b.1 fs gs (subst (λ (y : List ℕ). Spells y fs) left a.4) b.4 in
    cc (same, ih)

-- what spells two lists, one after the other, spells both
pub spells_append : (x y : List ℕ) (fs gs : List Field) → Spells x fs → Spells y gs → Spells (x ++ y) (fs ++ gs)
spells_append x y [] gs a b = subst (λ (z : List ℕ). Spells (z ++ y) gs) (sym a) b
spells_append x y (f ∷ fs) gs a b = (a.0, a.1 ++ y, ap (λ (z : List ℕ). z ++ y) a.2 ∙ append_assoc a.0 a.1 y, a.3, spells_append a.1 y fs gs a.4 b)

-- ---- the fields of a trace

-- the fields of a trace that is right
trace_fields : (ps : List PlacedField) → fields (trace_of ps) ≡ fields_of ps
trace_fields [] = refl
trace_fields (p ∷ ps) = ap (λ (l : List Field). p.field ∷ l) (trace_fields ps)

-- the fields that a trace meets are those that the bytes spell
pub fields_spelled : (base : ℕ) (bytes : List ℕ) (fs : List Field) → Spells bytes fs → fields (trace base bytes) ≡ fs
fields_spelled base bytes fs s = let r = read_spelled base bytes fs s in ap fields r.1 ∙ trace_fields r.0 ∙ r.2
