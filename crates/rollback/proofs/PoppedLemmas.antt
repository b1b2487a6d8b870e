-- A rollback goes on, where a touched piece lost its raised version.
use Rattle.std.proofs.Common.{◌≡◌, ◌≢◌, ◌⊎◌, inl, inr, ℕ, suc, ◌+◌, ◌≤◌, Bool, true, false, if◌then◌else◌, List, [], length, Option, Some, refl, sym, ap, subst, ◌∙◌, arith, map}
use Rattle.std.specs.Option.{option_map}
use Rattle.std.proofs.lemmas.Bool.{cases_eq, eqb-false}
use Rattle.page_model.specs.Pages.{Pages, Address}
use Rattle.store_data.specs.Pieces.{popped}
use Rattle.store_data.specs.Store.{Piece, Lob, Body, versioned, Log, Store}
use Rattle.undo_model.specs.Rows.{RowPage}
use Rattle.undo_model.proofs.OptionLemmas.{some_some}
use Rattle.lob_model.specs.Pieces.{AreFalling}
use Rattle.store_model.specs.Consistent.{IsConsistent}
use Rattle.store_model.specs.History.{row_before}
use Rattle.store_model.specs.Lobs.{lob_of, pieces_of}
use Rattle.store_model.specs.Steps.{on_lob, on_piece, log_of, at_piece, at_version}
use Rattle.store_model.specs.Takes.{piece_of}
use Rattle.store_model.specs.Undo.{version_popped, popped_at}
use Rattle.store_model.specs.Versions.{AreUpTo}
use Rattle.store_model.specs.Well.{IsKind}
use Rattle.store_model.proofs.LobLemmas.{lob-on_this}
use Rattle.store_steps.specs.Reached.{piece_in, IsHeadAt, AreBelow}
use Rattle.store_steps.specs.Standing.{StandsOn}
use Rattle.store_steps.specs.Touched.{next_touched}
use Rattle.store_steps.proofs.KeptLemmas.{length_on, heads_on, head_popped, head_stays}
use Rattle.store_steps.proofs.LobLemmas.{lob_at}
use Rattle.rollback.specs.declared.job.Undoing.{Undoing}
use Rattle.rollback.specs.Standing.{Scene, IsAt}
use Rattle.rollback.specs.Kinds.{CanLower, CanUndoBy, IsHeadIn}
use Rattle.rollback.specs.Undoable.{IsToCome, AreLowBut, CanPopOn, CanGoOn, undone_lobs, AreUndoable}
use Rattle.rollback.specs.Next.{IsUndoing, later}
use Rattle.rollback.specs.Versions.{is_raised, piece_at, CanPop}
use Rattle.rollback.proofs.ChainLemmas.{step_kind}
use Rattle.rollback.proofs.ConsistentLemmas.{raised_there}
use Rattle.rollback.proofs.LikeLemmas.{IsLike, AreLike, like_at, on_on, none_mapped, all_like, popped_once, some_on}
use Rattle.rollback.proofs.WalkLemmas.{come_on, none_come, piece_other, piece_this, falls_at, up_at, falling_low, popped_low}

-- ---- the record stays the newest

pub at_later : (was told : Option Pages) (job now : Undoing) (s : Scene) → IsUndoing was job s
    → (new : Pages) → told ≡ Some new → job.log.0 ≡ now.log.0 → (there : List RowPage)
    (store : Store) → StandsOn there new store → store.active ≡ s.store.active
    → IsAt told now.log.0 (later there new store s)
at_later was told job now s j new is log there store on same =
    let at = j.at in
    record {
      told' = is;
      stands = on;
      found = ap (λ (ls : List Log). log_of ls s.trx) same ∙ at.found;
      page = at.page ∙ log;
      records = at.records;
    }

-- ---- a LOB whose versions it raised

module _ (was told : Option Pages) (job now : Undoing) (s : Scene) (j : IsUndoing was job s)
    (new : Pages) (is : told ≡ Some new) (log : job.log.0 ≡ now.log.0)
    (heads : IsHeadIn now.reached s) (pieces : ℕ) (touched : List ℕ)
    (body : s.undo.body ≡ versioned pieces touched) (can : CanLower job.reached touched s)
    (on : CanPopOn (piece_in job.reached) touched s.undo.before s.store.lobs) where
  abbrev first : ℕ
  first = s.undo.before.lob.page

  abbrev v : ℕ
  v = s.undo.before.lob.version

  kind : IsKind (versioned pieces touched) (row_before s.store s.undo.doc) s.undo.before
  kind = subst (λ (b : Body). IsKind b (row_before s.store s.undo.doc) s.undo.before) body
      (let at = j.at in step_kind was job.log.0 s at j.consistent)

  -- no version is above the raised one
  raised_up : AreUpTo (suc v) can.lob.pieces
  raised_up =
      let row = row_before s.store s.undo.doc in
      let holds = (let all = j.consistent in all.versions s.undo.doc).0 kind.0 in
      let raised = kind.2 in
      subst (λ (n : ℕ). AreUpTo n can.lob.pieces) (ap (λ r. r.version) raised)
      (holds can.lob (ap (λ r. lob_of s.store.lobs r.page) raised ∙ can.found)).1

  falling : AreFalling (can.lob.version + 1) can.lob.pieces
  falling =
      let at = j.at in
      let l = lob_at s.there s.pages s.store first can.lob at.stands can.found in
      let stands = l.stands in let shape = stands.shape in shape.falling

  -- what is low, or still to come, behind the piece that is next
  low_on : (k : ℕ) → next_touched (piece_in job.reached) touched ≡ Some k → (n : ℕ) (p : Piece)
      → piece_of n can.lob.pieces ≡ Some p → n ≢ k
      → (p.head.number ≤ v) ⊎ IsToCome (Some k) n touched
  low_on k next n p here other = elim (on.low can.lob can.found n p here) [
    | inl low ↦ inl low
    | inr come ↦ inr (come_on (piece_in job.reached) k n touched on.ascending next come other)
  ]

  pop_later : (k : ℕ) → next_touched (piece_in job.reached) touched ≡ Some k
      → (there : List RowPage) (store : Store) (l : Lob) → StandsOn there new store
      → IsConsistent store → store.active ≡ s.store.active → lob_of store.lobs first ≡ Some l
      → length l.pieces ≡ length can.lob.pieces → ((n : ℕ) → CanPop n v l)
      → piece_in now.reached ≡ Some k → IsHeadAt now.reached l
      → AreLowBut (Some k) touched v l.pieces
      → AreUndoable s.rest (undone_lobs (versioned pieces touched) s.undo.before store.lobs)
      → IsUndoing told now (later there new store s)
  pop_later k next there store l stands right same found many older comes head low behind' =
      let sc = later there new store s in
      let at = lob_at there new store first l stands found in
      let lob = at.stands in
      let shape = lob.shape in
      let low' : AreLowBut (piece_in now.reached) touched v l.pieces =
      subst (λ (o : Option ℕ). AreLowBut o touched v l.pieces) (sym comes) low in
      let lower : CanLower now.reached touched sc = record {
        pieces = pieces;
        body = body;
        lob = l;
        found = found;
        head = head;
        below = subst (λ (n : ℕ). AreBelow n touched) (sym many) can.below;
        older = older;
        lowered = λ none. falling_low (l.version + 1) v l.pieces shape.falling
            (λ n p here. elim (low' n p here) [
              | inl h ↦ h
              | inr come ↦ absurd (none_come (piece_in now.reached) n touched none come)
            ]);
      } in
      let pop : CanPopOn (piece_in now.reached) touched s.undo.before store.lobs = record {
        ascending = on.ascending;
        low = λ q there'. subst (λ (x : Lob). AreLowBut (piece_in now.reached) touched v x.pieces)
            (some_some l q (sym found ∙ there')) low';
      } in
      record {
        at = at_later was told job now s j new is log there store stands same;
        consistent = right;
        can = subst (λ (b : Body). CanUndoBy b now.reached sc) (sym body) lower;
        on = subst (λ (b : Body). CanGoOn b (piece_in now.reached) s.undo.before store.lobs)
            (sym body) pop;
        older = subst (λ (b : Body). AreUndoable s.rest (undone_lobs b s.undo.before store.lobs))
            (sym body) behind';
      }

  piece_here : (k : ℕ) → piece_at first k s.store ≡ piece_of k can.lob.pieces
  piece_here k = ap (λ (o : Option Lob). piece_of k (pieces_of o)) can.found

  -- the piece that lost its raised version is low
  gone_low : (k : ℕ) → is_raised v (piece_at first k s.store) ≡ true → (p : Piece)
      → piece_of k (on_piece k popped can.lob.pieces) ≡ Some p → p.head.number ≤ v
  gone_low k raised p here =
      let was = piece_this k popped can.lob.pieces p here in
      let there = raised_there (piece_at first k s.store) v raised in
      let same = some_some there.0 was.0 (sym there.1 ∙ (piece_here k ∙ was.1)) in
      let up : was.0.head.number ≡ suc v =
      subst (λ (q : Piece). q.head.number ≡ suc v) same there.2 in
      subst (λ (q : Piece). q.head.number ≤ v) was.2
      (popped_low (can.lob.version + 1) v was.0
      (falls_at (can.lob.version + 1) k can.lob.pieces was.0 falling was.1) up
      (can.older k was.0 was.1 up))

  -- and so is one that lost none
  still_low : (k : ℕ) → is_raised v (piece_at first k s.store) ≡ false → (p : Piece)
      → piece_of k can.lob.pieces ≡ Some p → p.head.number ≤ v
  still_low k stays p here =
      let other = eqb-false p.head.number (suc v)
      (sym (ap (is_raised v) (piece_here k ∙ here)) ∙ stays) in
      let up = up_at (suc v) k can.lob.pieces p raised_up here in
      below p.head.number v up other
    where
      below : (a b : ℕ) → a ≤ suc b → (a ≡ suc b → ⊥) → a ≤ b
      below a b up other = elim (cases_eq a (suc b)) [
        | inl same ↦ absurd (other same)
        | inr not ↦ omega (arith, up, not)
      ]

  -- ---- the older records

  older_ones : AreUndoable s.rest
      (undone_lobs (versioned pieces touched) s.undo.before s.store.lobs)
  older_ones = subst (λ (b : Body). AreUndoable s.rest (undone_lobs b s.undo.before s.store.lobs)) body
      j.older

  -- once the record is undone the LOBs are alike
  pop_like : (k : ℕ) (free : List Address) → is_raised v (piece_at first k s.store) ≡ true
      → AreLike (undone_lobs (versioned pieces touched) s.undo.before s.store.lobs)
      (undone_lobs (versioned pieces touched) s.undo.before
      (on_lob first (λ l. record (at_piece k popped l) { free = free }) s.store.lobs))
  pop_like k free raised =
      let f : Lob → Lob = λ l. record (at_piece k popped l) { free = free } in
      let e : Lob → Lob = λ l. record l { pieces = map (popped_at (suc v)) l.pieces } in
      let lobs = s.store.lobs in
      let ps = can.lob.pieces in
      let there = raised_there (piece_at first k s.store) v raised in
      let here : piece_of k ps ≡ Some there.0 = sym (piece_here k) ∙ there.1 in
      let low = popped_low (can.lob.version + 1) v there.0
      (falls_at (can.lob.version + 1) k ps there.0 falling here) there.2
      (can.older k there.0 here there.2) in
      let like : IsLike (at_version v (e can.lob)) (at_version v (e (f can.lob))) = record {
        page = refl;
        pieces = popped_once k v ps there.0 here there.2 low;
        bare = λ bare none. absurd (some_on k popped ps there.0 here
            (none_mapped (popped_at (suc v)) (on_piece k popped ps) none));
      } in
      let was = on_on first (at_version v) e lobs (λ l. refl) in
      let now' = ap (on_lob first (at_version v)) (on_on first e f lobs (λ l. refl))
      ∙ on_on first (at_version v) (λ l. e (f l)) lobs (λ l. refl) in
      subst (λ (xs : List Lob). AreLike xs (on_lob first (at_version v) (on_lob first e (on_lob first f lobs))))
      (sym was) (subst (λ (ys : List Lob). AreLike (on_lob first (λ l. at_version v (e l)) lobs) ys)
      (sym now') (like_at first (λ l. at_version v (e l)) (λ l. at_version v (e (f l))) lobs can.lob
      can.found like))

  module _ (k : ℕ) (next : next_touched (piece_in job.reached) touched ≡ Some k)
      (comes : piece_in now.reached ≡ Some k) (there : List RowPage) where
    pop_on : (free : List Address) → is_raised v (piece_at first k s.store) ≡ true
        → StandsOn there new (version_popped first k free s.store)
        → IsConsistent (version_popped first k free s.store)
        → IsUndoing told now (later there new (version_popped first k free s.store) s)
    pop_on free raised stands right =
        let f : Lob → Lob = λ l. record (at_piece k popped l) { free = free } in
        pop_later k next there (version_popped first k free s.store) (f can.lob) stands right refl
        (lob-on_this first f s.store.lobs (λ x. refl) ∙ ap (option_map f) can.found)
        (length_on k popped can.lob.pieces) (λ n p here up. older n p here up (cases_eq n k)) comes
        (head_stays now.reached can.lob (f can.lob)
        (heads_on k popped can.lob.pieces head_popped) (heads can.lob can.found))
        (λ n p here. low n p here (cases_eq n k))
        (all_like s.rest _ _ (pop_like k free raised) older_ones)
      where
        at_k : (n : ℕ) (p : Piece) → n ≡ k → piece_of n (on_piece k popped can.lob.pieces) ≡ Some p
            → p.head.number ≤ v
        at_k n p same here = gone_low k raised p
            (ap (λ (x : ℕ). piece_of x (on_piece k popped can.lob.pieces)) (sym same) ∙ here)

        older : (n : ℕ) (p : Piece) → piece_of n (on_piece k popped can.lob.pieces) ≡ Some p
            → p.head.number ≡ suc v → (n ≡ k) ⊎ (n ≢ k) → p.older ≢ []
        older n p here up (inl same) = absurd (let a = at_k n p same here in omega (arith, a, up))
        older n p here up (inr other) = can.older n p
            (sym (piece_other n k popped can.lob.pieces other) ∙ here) up

        low : (n : ℕ) (p : Piece) → piece_of n (on_piece k popped can.lob.pieces) ≡ Some p
            → (n ≡ k) ⊎ (n ≢ k) → (p.head.number ≤ v) ⊎ IsToCome (Some k) n touched
        low n p here (inl same) = inl (at_k n p same here)
        low n p here (inr other) = low_on k next n p
            (sym (piece_other n k popped can.lob.pieces other) ∙ here) other

    stay_on : is_raised v (piece_at first k s.store) ≡ false → StandsOn there new s.store
        → IsUndoing told now (later there new s.store s)
    stay_on stays stands =
        pop_later k next there s.store can.lob stands j.consistent refl can.found refl can.older
        comes (heads can.lob can.found) (λ n p here. low n p here (cases_eq n k)) older_ones
      where
        low : (n : ℕ) (p : Piece) → piece_of n can.lob.pieces ≡ Some p → (n ≡ k) ⊎ (n ≢ k)
            → (p.head.number ≤ v) ⊎ IsToCome (Some k) n touched
        low n p here (inl same) = inl (still_low k stays p
            (ap (λ (x : ℕ). piece_of x can.lob.pieces) (sym same) ∙ here))
        low n p here (inr other) = low_on k next n p here other

    pub gone_on : (free : List Address) (b : Bool) → is_raised v (piece_at first k s.store) ≡ b
        → StandsOn there new (if b then version_popped first k free s.store else s.store)
        → IsConsistent (if b then version_popped first k free s.store else s.store)
        → IsUndoing told now
        (later there new (if b then version_popped first k free s.store else s.store) s)
    gone_on free true raised stands right = pop_on free raised stands right
    gone_on free false stays stands right = stay_on stays stands
