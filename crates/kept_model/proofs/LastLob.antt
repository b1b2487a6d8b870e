-- The last LOB of a document whose oldest change made versions: its page, its version, and the
-- changes in front.
use Rattle.std.proofs.Common.{◌≡◌, ◌≢◌, inl, inr, ◌⊎◌, ℕ, suc, ◌+◌, Bool, true, false, true≢false, nat_eq, List, [], ◌∷◌, ◌++◌, map, Option, Some, None, is_some, option_to_list, refl, sym, ap, ap₂, subst, ◌∙◌, arith, if◌then◌else◌}
use Rattle.page_model.specs.Pages.{Address}
use Rattle.journal_model.specs.Held.{Kind, inserted, rebuilt, versioned, patched, removed, HeldLob, at_first, raised, add, add_all}
use Rattle.store_data.specs.Store.{RowState, live, deleted, Reference, Row, Lob, Body, Record, Log, Store}
use Rattle.store_data.specs.Store as bodies
use Rattle.store_model.specs.Lobs.{lob_of}
use Rattle.store_model.specs.History.{Change, changes, changes_among, log_changes, active_changes, committed_changes}
use Rattle.store_model.specs.Behind.{AllBefore, IsElsewhere}
use Rattle.store_model.specs.Moves.{OlderElsewhere}
use Rattle.store_model.specs.Owned.{owned_if, owned_by, row_lobs, record_lobs, log_lobs, owned_lobs, IsNotAmong, IsAmong}
use Rattle.store_model.specs.Versions.{HoldsAt, IfNewest, HoldBehind}
use Rattle.store_model.specs.Well.{IsKind, IsChain}
use Rattle.store_model.specs.Consistent.{IsConsistent}
use Rattle.store_model.proofs.TakesLemmas.{owned_unlive, owned_live}
use Rattle.store_model.proofs.HeldLemmas.{owned_there}
use Rattle.kept_model.specs.Held.{held_lob, held_lobs, change_lobs}
use Rattle.kept_model.specs.Pages.{IsSort, AreSorts}
use Rattle.kept_model.proofs.PassLobs.{lobs_both}

-- ---- what a document's records own is owned

among_left : (p : ℕ) (xs ys : List ℕ) → IsAmong p xs → IsAmong p (xs ++ ys)
among_left p [] ys h = absurd h
among_left p (x ∷ xs) ys (inl e) = inl e
among_left p (x ∷ xs) ys (inr h) = inr (among_left p xs ys h)

among_right : (p : ℕ) (xs ys : List ℕ) → IsAmong p ys → IsAmong p (xs ++ ys)
among_right p [] ys h = h
among_right p (x ∷ xs) ys h = inr (among_right p xs ys h)

among_parts : (p : ℕ) (xs ys : List ℕ) → IsAmong p (xs ++ ys) → IsAmong p xs ⊎ IsAmong p ys
among_parts p [] ys h = inr h
among_parts p (x ∷ xs) ys (inl e) = inl (inl e)
among_parts p (x ∷ xs) ys (inr h) = elim (among_parts p xs ys h) [ inl a ↦ inl (inr a) | inr b ↦ inr b ]

in_records : (p d trx : ℕ) (us : List (Address × Record)) → IsAmong p (change_lobs (changes_among d trx us)) → IsAmong p (record_lobs us)
in_records p d trx [] h = h
in_records p d trx (u ∷ us) h = by_test (nat_eq u.1.doc d) h (in_records p d trx us)
  where
    by_test : (b : Bool) → IsAmong p (change_lobs (if b then (let c : Change = record { place = u.0; trx = trx; undo = u.1 } in c ∷ changes_among d trx us) else changes_among d trx us))
        → (IsAmong p (change_lobs (changes_among d trx us)) → IsAmong p (record_lobs us)) → IsAmong p (owned_by u.1.body u.1.before ++ record_lobs us)
    by_test true g rest = elim (among_parts p (owned_by u.1.body u.1.before) (change_lobs (changes_among d trx us)) g) [
      | inl a ↦ among_left p (owned_by u.1.body u.1.before) (record_lobs us) a
      | inr b ↦ among_right p (owned_by u.1.body u.1.before) (record_lobs us) (rest b)
    ]
    by_test false g rest = among_right p (owned_by u.1.body u.1.before) (record_lobs us) (rest g)

in_active : (p d : ℕ) (ls : List Log) → IsAmong p (change_lobs (active_changes d ls)) → IsAmong p (log_lobs ls)
in_active p d [] h = h
in_active p d (l ∷ ls) h = elim (among_parts p (change_lobs (log_changes d l)) (change_lobs (active_changes d ls)) (subst (IsAmong p) (lobs_both (log_changes d l) (active_changes d ls)) h)) [
  | inl a ↦ among_left p (record_lobs l.records) (log_lobs ls) (in_records p d l.trx l.records a)
  | inr b ↦ among_right p (record_lobs l.records) (log_lobs ls) (in_active p d ls b)
]

in_committed : (p d : ℕ) (ls : List Log) → IsAmong p (change_lobs (committed_changes d ls)) → IsAmong p (log_lobs ls)
in_committed p d [] h = h
in_committed p d (l ∷ ls) h = elim (among_parts p (change_lobs (committed_changes d ls)) (change_lobs (log_changes d l)) (subst (IsAmong p) (lobs_both (committed_changes d ls) (log_changes d l)) h)) [
  | inl a ↦ among_right p (record_lobs l.records) (log_lobs ls) (in_committed p d ls a)
  | inr b ↦ among_left p (record_lobs l.records) (log_lobs ls) (in_records p d l.trx l.records b)
]

in_owned : (p d : ℕ) (store : Store) → IsAmong p (change_lobs (changes store d)) → IsAmong p (owned_lobs store)
in_owned p d store h = among_right p (row_lobs store.rows) (log_lobs store.active ++ log_lobs store.committed)
    (elim (among_parts p (change_lobs (active_changes d store.active)) (change_lobs (committed_changes d store.committed))
    (subst (IsAmong p) (lobs_both (active_changes d store.active) (committed_changes d store.committed)) h)) [
      | inl a ↦ among_left p (log_lobs store.active) (log_lobs store.committed) (in_active p d store.active a)
      | inr b ↦ among_right p (log_lobs store.active) (log_lobs store.committed) (in_committed p d store.committed b)
    ])

pub lob_stands : (store : Store) (d p : ℕ) → IsConsistent store → IsAmong p (change_lobs (changes store d)) → is_some (lob_of store.lobs p) ≡ true
lob_stands store d p all h = owned_there p store all.lobs (in_owned p d store h)

pub some_lob : (o : Option Lob) → is_some o ≡ true → (m : Lob) × (o ≡ Some m)
some_lob None h = absurd (true≢false (sym h))
some_lob (Some m) h = (m, refl)

-- ---- its page is the last

before_at : (P : Row → Type 0) (cs : List Change) (c : Change) → AllBefore P (cs ++ c ∷ []) → P c.undo.before
before_at P [] c all = all.0
before_at P (b ∷ cs) c all = before_at P cs c all.1

abbrev pub EndsAt : ℕ → List ℕ → Type 0
EndsAt p ps = (front : List ℕ) × (ps ≡ front ++ p ∷ []) × IsNotAmong p front

module _ (c : Change) (is_live : c.undo.before.state ≡ live) (its_kind : (r : Row) → IsKind c.undo.body r c.undo.before → (r.state ≡ live) × (r.lob ≡ Rattle.store_model.specs.Events.raised c.undo.before.lob)) (owns_none : owned_by c.undo.body c.undo.before ≡ []) where
  abbrev page : ℕ
  page = c.undo.before.lob.page

  abbrev pages_of : Row → List Change → List ℕ
  pages_of row cs = owned_if row.state row.lob.page ++ change_lobs (cs ++ c ∷ [])

  new_page : (q : ℕ) (row before : Row) (cs : List Change) → row.state ≡ live → row.lob.page ≡ q → page ≢ q → EndsAt page (change_lobs (cs ++ c ∷ [])) → EndsAt page (pages_of row cs)
  new_page q row before cs live_row is other e = (
    q ∷ e.0,
    ap₂ (λ (ps qs : List ℕ). ps ++ qs) (owned_live row live_row ∙ ap (λ (n : ℕ). n ∷ []) is) e.1,
    (λ same. other (sym same), e.2),
  )

  pub ends_at : (row : Row) (cs : List Change) → IsChain row (cs ++ c ∷ []) → EndsAt page (pages_of row cs)
  ends_at row [] chain =
      let k = its_kind row chain.0.kind in
      ([], ap₂ (λ (ps qs : List ℕ). ps ++ (qs ++ [])) (owned_live row k.0 ∙ ap (λ (r : Reference). r.page ∷ []) k.1) owns_none, tt)
  ends_at row (b ∷ cs) chain = by_kind b.undo.body chain.0.kind chain.0.fresh (ends_at b.undo.before cs chain.1)
    where
      by_kind : (k : Body) → IsKind k row b.undo.before → OlderElsewhere k (b ∷ (cs ++ c ∷ [])) → EndsAt page (pages_of b.undo.before cs) → EndsAt page (owned_if row.state row.lob.page ++ (owned_by k b.undo.before ++ change_lobs (cs ++ c ∷ [])))
      by_kind (bodies.inserted q) kind fresh rest = new_page q row b.undo.before cs kind.0 kind.1 (before_at (IsElsewhere q) cs c fresh.1 is_live)
          (subst (λ (ps : List ℕ). EndsAt page (ps ++ change_lobs (cs ++ c ∷ []))) (owned_unlive b.undo.before kind.2) rest)
      by_kind (bodies.rebuilt q) kind fresh rest =
          let e = subst (λ (ps : List ℕ). EndsAt page (ps ++ change_lobs (cs ++ c ∷ []))) (owned_live b.undo.before kind.2) rest in
          (q ∷ e.0, ap₂ (λ (ps qs : List ℕ). ps ++ qs) (owned_live row kind.0 ∙ ap (λ (n : ℕ). n ∷ []) kind.1) e.1, (λ same. before_at (IsElsewhere q) cs c fresh.1 is_live (sym same), e.2))
      by_kind (bodies.versioned pieces touched) kind fresh rest = subst (λ (ps : List ℕ). EndsAt page (ps ++ change_lobs (cs ++ c ∷ [])))
          (owned_live b.undo.before kind.1 ∙ ap (λ (r : Reference). r.page ∷ []) (sym kind.2) ∙ sym (owned_live row kind.0)) rest
      by_kind (bodies.patched old) kind fresh rest = subst (λ (ps : List ℕ). EndsAt page (ps ++ change_lobs (cs ++ c ∷ [])))
          (owned_live b.undo.before kind.1 ∙ ap (λ (r : Reference). r.page ∷ []) (sym kind.2) ∙ sym (owned_live row kind.0)) rest
      by_kind bodies.removed kind fresh rest = subst (λ (ps : List ℕ). EndsAt page (ps ++ (b.undo.before.lob.page ∷ change_lobs (cs ++ c ∷ []))))
          (sym (ap (λ (s : RowState). owned_if s row.lob.page) kind.0)) (subst (λ (ps : List ℕ). EndsAt page (ps ++ change_lobs (cs ++ c ∷ []))) (owned_live b.undo.before kind.1) rest)

  -- ---- and its version that of the row before

  module _ (lobs : List Lob) (z : HeldLob) where
    abbrev tail : List Change → List HeldLob
    tail cs = held_lobs lobs (change_lobs (cs ++ c ∷ []))

    -- the LOBs behind changes, by the row that they led to
    pub record IsTop (row : Row) (cs : List Change) (list : List HeldLob) : Type 0 where
      pub up : row.state ≡ live → (x : HeldLob) × (list ≡ x ∷ tail cs) × (x.version ≡ row.lob.version)
      pub down : row.state ≢ live → list ≡ tail cs

    raised_top : (t : List ℕ) (zs : List HeldLob) (x : HeldLob) (xs : List HeldLob) (v : ℕ) → at_first (raised t) zs ≡ x ∷ xs → x.version ≡ suc v → (y : HeldLob) × (zs ≡ y ∷ xs) × (y.version ≡ v)
    raised_top t [] x xs v e h = absurd (cc e)
    raised_top t (y ∷ ys) x xs v e h =
        let rest : ys ≡ xs = cc e in let head : raised t y ≡ x = cc e in
        let n : y.version + 1 ≡ x.version = ap (λ (l : HeldLob). l.version) head in
        (y, ap (λ (ls : List HeldLob). y ∷ ls) rest, omega (arith, n, h))

    -- where the row before is live, its LOB is the first that the record owns
    freed_top : (before : Row) (cs : List Change) (zs : List HeldLob) → before.state ≡ live → HoldsAt lobs before → is_some (lob_of lobs before.lob.page) ≡ true
        → zs ≡ held_lobs lobs (before.lob.page ∷ change_lobs (cs ++ c ∷ [])) → IsTop before cs zs
    freed_top before cs zs live_row holds stands e =
        let m = some_lob (lob_of lobs before.lob.page) stands in
        record {
          up = λ h. (held_lob m.0, e ∙ ap (λ (o : Option Lob). map held_lob (option_to_list o) ++ tail cs) m.1, (holds m.0 m.1).0);
          down = λ h. absurd (h live_row);
        }

    pub version_is : (row : Row) (cs : List Change) (ks : List Kind) → IsChain row (cs ++ c ∷ []) → AreSorts ks cs → HoldBehind lobs (cs ++ c ∷ [])
        → ((p : ℕ) → IsAmong p (change_lobs (cs ++ c ∷ [])) → is_some (lob_of lobs p) ≡ true) → IsTop row cs (add_all ks (z ∷ [])) → z.version ≡ suc c.undo.before.lob.version
    version_is row [] [] chain sorts holds stands top =
        let k = its_kind row chain.0.kind in
        let t = top.up k.0 in
        let is : z ≡ t.0 = cc t.1 in
        ap (λ (l : HeldLob). l.version) is ∙ t.2 ∙ ap (λ (r : Reference). r.version) k.1
    version_is row [] (k ∷ ks) chain sorts holds stands top = absurd sorts
    version_is row (b ∷ cs) [] chain sorts holds stands top = absurd sorts
    version_is row (b ∷ cs) (k ∷ ks) chain sorts holds stands top =
        version_is b.undo.before cs ks chain.1 sorts.1 holds.1 (λ p h. stands p (among_right p (owned_by b.undo.body b.undo.before) (change_lobs (cs ++ c ∷ [])) h))
        (by_kind b.undo.body k sorts.0 chain.0.kind holds.0 (λ p h. stands p (among_left p (owned_by b.undo.body b.undo.before) (change_lobs (cs ++ c ∷ [])) h))
        (λ h. top.up h) (λ h. top.down h))
      where
        by_kind : (q : Body) (k : Kind) → IsSort k q → IsKind q row b.undo.before → IfNewest q (HoldsAt lobs b.undo.before) → ((p : ℕ) → IsAmong p (owned_by q b.undo.before) → is_some (lob_of lobs p) ≡ true)
            → (row.state ≡ live → (x : HeldLob) × (add k (add_all ks (z ∷ [])) ≡ x ∷ held_lobs lobs (owned_by q b.undo.before ++ change_lobs (cs ++ c ∷ []))) × (x.version ≡ row.lob.version))
            → (row.state ≢ live → add k (add_all ks (z ∷ [])) ≡ held_lobs lobs (owned_by q b.undo.before ++ change_lobs (cs ++ c ∷ []))) → IsTop b.undo.before cs (add_all ks (z ∷ []))
        by_kind (bodies.inserted q) (inserted n) s kind newest stands up down = record { up = λ h. absurd (kind.2 h); down = λ h. (let t = up kind.0 in let e : (add_all ks (z ∷ [])) ≡ tail cs = cc t.1 in e) }
        by_kind (bodies.rebuilt q) (rebuilt n) s kind newest stands up down =
            let t = up kind.0 in let e : (add_all ks (z ∷ [])) ≡ held_lobs lobs (b.undo.before.lob.page ∷ change_lobs (cs ++ c ∷ [])) = cc t.1 in
            freed_top b.undo.before cs (add_all ks (z ∷ [])) kind.2 newest (stands b.undo.before.lob.page (inl refl)) e
        by_kind (bodies.versioned pieces touched) (versioned t) s kind newest stands up down = record {
          up = λ h. (let x = up kind.0 in raised_top t (add_all ks (z ∷ [])) x.0 (tail cs) b.undo.before.lob.version x.1 (x.2 ∙ ap (λ (r : Reference). r.version) kind.2));
          down = λ h. absurd (h kind.1);
        }
        by_kind (bodies.patched old) patched s kind newest stands up down = record {
          up = λ h. (let x = up kind.0 in (x.0, x.1, x.2 ∙ ap (λ (r : Reference). r.version) kind.2));
          down = λ h. absurd (h kind.1);
        }
        by_kind bodies.removed removed s kind newest stands up down =
            freed_top b.undo.before cs (add_all ks (z ∷ [])) kind.1 newest (stands b.undo.before.lob.page (inl refl)) (down (λ h. absurd (cc (sym h ∙ kind.0))))
        by_kind (bodies.inserted q) (rebuilt n) s kind newest stands up down = absurd s
        by_kind (bodies.inserted q) (versioned t) s kind newest stands up down = absurd s
        by_kind (bodies.inserted q) patched s kind newest stands up down = absurd s
        by_kind (bodies.inserted q) removed s kind newest stands up down = absurd s
        by_kind (bodies.rebuilt q) (inserted n) s kind newest stands up down = absurd s
        by_kind (bodies.rebuilt q) (versioned t) s kind newest stands up down = absurd s
        by_kind (bodies.rebuilt q) patched s kind newest stands up down = absurd s
        by_kind (bodies.rebuilt q) removed s kind newest stands up down = absurd s
        by_kind (bodies.versioned pieces touched) (inserted n) s kind newest stands up down = absurd s
        by_kind (bodies.versioned pieces touched) (rebuilt n) s kind newest stands up down = absurd s
        by_kind (bodies.versioned pieces touched) patched s kind newest stands up down = absurd s
        by_kind (bodies.versioned pieces touched) removed s kind newest stands up down = absurd s
        by_kind (bodies.patched old) (inserted n) s kind newest stands up down = absurd s
        by_kind (bodies.patched old) (rebuilt n) s kind newest stands up down = absurd s
        by_kind (bodies.patched old) (versioned t) s kind newest stands up down = absurd s
        by_kind (bodies.patched old) removed s kind newest stands up down = absurd s
        by_kind bodies.removed (inserted n) s kind newest stands up down = absurd s
        by_kind bodies.removed (rebuilt n) s kind newest stands up down = absurd s
        by_kind bodies.removed (versioned t) s kind newest stands up down = absurd s
        by_kind bodies.removed patched s kind newest stands up down = absurd s
