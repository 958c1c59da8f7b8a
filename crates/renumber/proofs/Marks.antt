-- Walks that go on, and marks of them.
use Rattle.std.proofs.Common.{◌≡◌, ℕ, ◌≤◌, [], length, refl, sym, ap, ◌∙◌, subst}
use Rattle.schema.specs.Shape.{Shape}
use Rattle.dict_rec.specs.declared.dictionary.Dictionary.{Dictionary}
use Rattle.key_tables.specs.Keys.{Keys}
use Rattle.key_tables.specs.Keys.{CanBeCut as TablesCanBeCut, IsMark as IsTablesMark, cut_to as tables_cut_to}
use Rattle.key_tables.proofs.Cuts.{prefixes_itself, prefixes_over, can_be_cut as tables_cut, cut_back as tables_back}
use Rattle.renumber.specs.Entries.{IsSource}
use Rattle.renumber.specs.Marks.{CanBeWalkedBack, IsWalkMark, WalkGoesOn, state_with, walked_back}
use Rattle.renumber.specs.Memos.{IsMemoMark, MemoLists, MemoState, memo_back}
use Rattle.renumber.specs.Walk.{IsReady, Moves, State, memo_of}
use Rattle.renumber.specs.declared.walk_mark.WalkMark.{WalkMark}
use Rattle.renumber.proofs.MemoSteps.{goes_back, goes_itself as memo_itself, goes_over as memo_over}

-- equal parts are equal states
pub state_same : (source source' : Dictionary) (keys keys' : Keys) (memo memo' : MemoState) → source ≡ source' → keys ≡ keys' → memo ≡ memo'
    → state_with source keys memo ≡ state_with source' keys' memo'
state_same source source' keys keys' memo memo' e f g =
    ap (λ s. state_with s keys memo) e ∙ ap (λ k. state_with source' k memo) f ∙ ap (state_with source' keys') g

-- ---- walks that go on

pub walk_itself : (w : State) → WalkGoesOn w w
walk_itself w = record { same = refl; keys = prefixes_itself w.keys; memo = memo_itself (memo_of w) }

pub walk_over : (a b c : State) → WalkGoesOn a b → WalkGoesOn b c → WalkGoesOn a c
walk_over a b c g h = record {
  same = h.same ∙ g.same;
  keys = prefixes_over a.keys b.keys c.keys g.keys h.keys;
  memo = memo_over (memo_of a) (memo_of b) (memo_of c) g.memo h.memo;
}

-- where a walk leads to goes on from where it began
pub walk_moves : (s : Shape) (extra : ℕ) (a b : State) (n m : ℕ) → Moves s extra a b n m → WalkGoesOn a b
walk_moves s extra a b n m p = record { same = p.same; keys = p.kept a.keys (prefixes_itself a.keys); memo = p.noted (memo_of a) (memo_itself (memo_of a)) }

-- ---- back to a mark

pub marked : (m : WalkMark) (w : State) → IsSource w.source → IsReady w.source w.keys w.memo → IsTablesMark m.keys w.keys → IsMemoMark m.memo (memo_of w) → IsWalkMark m w
marked m w source ready keys memo = record { source = source; ready = ready; keys = keys; memo = memo }

-- a mark of tables, with that of a memo in which nothing was noted, is one of a state with these tables in which nothing was met
pub marked_unmet : (m : WalkMark) (source : Dictionary) (keys : Keys) (lists : MemoLists) → IsSource source → IsReady source keys lists → IsTablesMark m.keys keys → m.memo ≡ 0
    → IsWalkMark m (state_with source keys (record { lists = lists; noted = [] }))
marked_unmet m source keys lists s r k z = marked m (state_with source keys (record { lists = lists; noted = [] })) s r k z

-- what goes on from the state of a mark is this one again
pub marked_back : (m : WalkMark) (a b : State) → IsWalkMark m a → WalkGoesOn a b → walked_back m b ≡ a
marked_back m a b i g =
    state_same b.source a.source _ a.keys _ (memo_of a) g.same (tables_back a.keys b.keys m.keys i.keys g.keys) (goes_back m.memo (memo_of a) (memo_of b) i.memo g.memo).1

pub can_go_back : (m : WalkMark) (a b : State) → IsWalkMark m a → WalkGoesOn a b → CanBeWalkedBack m b
can_go_back m a b i g =
    let e : a ≡ walked_back m b = sym (marked_back m a b i g) in
    record { grown = subst (λ x. WalkGoesOn x b) e g; mark = subst (IsWalkMark m) e i }

-- ---- what going back needs

module _ (m : WalkMark) (w : State) (h : CanBeWalkedBack m w) where
  pub tables_there : TablesCanBeCut m.keys w.keys
  tables_there = tables_cut (walked_back m w).keys w.keys m.keys h.mark.keys h.grown.keys

  pub noted_there : m.memo ≤ length w.noted
  noted_there = (goes_back m.memo (memo_of (walked_back m w)) (memo_of w) h.mark.memo h.grown.memo).0

  -- the parts that were cut are ready
  pub ready_there : (keys : Keys) (memo : MemoState) → keys ≡ tables_cut_to m.keys.lengths w.keys → memo ≡ memo_back m.memo (memo_of w) → IsReady w.source keys memo.lists
  ready_there keys memo e f =
      subst (λ (x : MemoState). IsReady w.source keys x.lists) (sym f)
      (subst (λ k. IsReady w.source k (memo_back m.memo (memo_of w)).lists) (sym e) h.mark.ready)
