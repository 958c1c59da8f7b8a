-- Whether two values are the same, as a test.
use Rattle.std.specs.Prelude.{◌≡◌, Bool, true, false, ◌&&◌, ◌==◌, refl}
use mathlib.Core.Bool.{true≢false, beq}
use Rattle.std.proofs.Common.{sym, ap, ◌∙◌}
use Rattle.std.specs.Cmp.{IsEquivalence, booleans_Decides, signed_Decides, first_so, second_so, decided, on_equiv}
use Rattle.std.specs.Cmp.Lexicographic.{pointwise, bytes_decides}
use Rattle.std.specs.Ordering.{int_eq}
use Rattle.schema.specs.AnyValue.{AnyValue, Values, NoValues, AddValue, KeyValue, KeyValues, NoPairs, AddPair}
use Rattle.any_value.specs.declared.value.Value.{Value}
use Rattle.any_value.specs.Views.{any_view}

abbrev mutual
  pub any_eq : AnyValue → AnyValue → Bool
  any_eq AnyValue.Empty AnyValue.Empty = true
  any_eq (AnyValue.Text a) (AnyValue.Text b) = pointwise ◌==◌ a b
  any_eq (AnyValue.Flag x) (AnyValue.Flag y) = beq x y
  any_eq (AnyValue.Int x) (AnyValue.Int y) = int_eq x y
  any_eq (AnyValue.Double a) (AnyValue.Double b) = pointwise ◌==◌ a b
  any_eq (AnyValue.Items vs) (AnyValue.Items ws) = values_eq vs ws
  any_eq (AnyValue.Pairs vs) (AnyValue.Pairs ws) = pairs_eq vs ws
  any_eq (AnyValue.Raw a) (AnyValue.Raw b) = pointwise ◌==◌ a b
  any_eq v w = false

  pub values_eq : Values → Values → Bool
  values_eq NoValues NoValues = true
  values_eq (AddValue v vs) (AddValue w ws) = any_eq v w && values_eq vs ws
  values_eq vs ws = false

  pub pairs_eq : KeyValues → KeyValues → Bool
  pairs_eq NoPairs NoPairs = true
  pairs_eq (AddPair a v vs) (AddPair b w ws) = (pointwise ◌==◌ a b && any_eq v w) && pairs_eq vs ws
  pairs_eq vs ws = false

-- a key and its value
abbrev pub pair_eq : KeyValue → KeyValue → Bool
pair_eq kv lw = pointwise ◌==◌ kv.0 lw.0 && any_eq kv.1 lw.1

-- ---- it says true of values that are the same

mutual
  any_itself : (v : AnyValue) → any_eq v v ≡ true
  any_itself AnyValue.Empty = refl
  any_itself (AnyValue.Text a) = (bytes_decides a a).1 refl
  any_itself (AnyValue.Flag x) = (booleans_Decides x x).1 refl
  any_itself (AnyValue.Int x) = (signed_Decides x x).1 refl
  any_itself (AnyValue.Double a) = (bytes_decides a a).1 refl
  any_itself (AnyValue.Items vs) = values_themselves vs
  any_itself (AnyValue.Pairs vs) = pairs_themselves vs
  any_itself (AnyValue.Raw a) = (bytes_decides a a).1 refl

  values_themselves : (vs : Values) → values_eq vs vs ≡ true
  values_themselves NoValues = refl
  values_themselves (AddValue v vs) = ap (λ t. t && values_eq vs vs) (any_itself v) ∙ values_themselves vs

  pairs_themselves : (vs : KeyValues) → pairs_eq vs vs ≡ true
  pairs_themselves NoPairs = refl
  pairs_themselves (AddPair a v vs) =
      ap (λ t. (t && any_eq v v) && pairs_eq vs vs) ((bytes_decides a a).1 refl) ∙ ap (λ t. t && pairs_eq vs vs) (any_itself v) ∙ pairs_themselves vs

-- ---- and of no others

mutual
  pub any_same : (v w : AnyValue) → any_eq v w ≡ true → v ≡ w
  any_same AnyValue.Empty AnyValue.Empty e = refl
  any_same (AnyValue.Text a) (AnyValue.Text b) e = ap (λ x. AnyValue.Text x) ((bytes_decides a b).0 e)
  any_same (AnyValue.Flag x) (AnyValue.Flag y) e = ap (λ x. AnyValue.Flag x) ((booleans_Decides x y).0 e)
  any_same (AnyValue.Int x) (AnyValue.Int y) e = ap (λ x. AnyValue.Int x) ((signed_Decides x y).0 e)
  any_same (AnyValue.Double a) (AnyValue.Double b) e = ap (λ x. AnyValue.Double x) ((bytes_decides a b).0 e)
  any_same (AnyValue.Items vs) (AnyValue.Items ws) e = ap (λ x. AnyValue.Items x) (values_same vs ws e)
  any_same (AnyValue.Pairs vs) (AnyValue.Pairs ws) e = ap (λ x. AnyValue.Pairs x) (pairs_same vs ws e)
  any_same (AnyValue.Raw a) (AnyValue.Raw b) e = ap (λ x. AnyValue.Raw x) ((bytes_decides a b).0 e)
  any_same v w e = absurd (true≢false (sym e))

  pub values_same : (vs ws : Values) → values_eq vs ws ≡ true → vs ≡ ws
  values_same NoValues NoValues e = refl
  values_same (AddValue v vs) (AddValue w ws) e =
      ap (λ x. AddValue x vs) (any_same v w (first_so (any_eq v w) (values_eq vs ws) e)) ∙ ap (AddValue w) (values_same vs ws (second_so (any_eq v w) (values_eq vs ws) e))
  values_same vs ws e = absurd (true≢false (sym e))

  pub pairs_same : (vs ws : KeyValues) → pairs_eq vs ws ≡ true → vs ≡ ws
  pairs_same NoPairs NoPairs e = refl
  pairs_same (AddPair a v vs) (AddPair b w ws) e =
      let first = first_so (pointwise ◌==◌ a b && any_eq v w) (pairs_eq vs ws) e in
      ap (λ x. AddPair x v vs) ((bytes_decides a b).0 (first_so (pointwise ◌==◌ a b) (any_eq v w) first))
      ∙ ap (λ x. AddPair b x vs) (any_same v w (second_so (pointwise ◌==◌ a b) (any_eq v w) first))
      ∙ ap (AddPair b w) (pairs_same vs ws (second_so (pointwise ◌==◌ a b && any_eq v w) (pairs_eq vs ws) e))
  pairs_same vs ws e = absurd (true≢false (sym e))

pub any_alike : (v w : AnyValue) → v ≡ w → any_eq v w ≡ true
any_alike v w e = ap (any_eq v) (sym e) ∙ any_itself v

pub any_equiv : IsEquivalence any_eq
any_equiv = decided any_eq (λ v w. (any_same v w, any_alike v w))

-- the same of the code's values
pub views_equiv : IsEquivalence (λ (a b : Value). any_eq (any_view a) (any_view b))
views_equiv = on_equiv any_view any_equiv
