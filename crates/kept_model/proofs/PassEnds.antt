-- What the event that ends a purged record does to the LOBs of documents: where the LOB before goes,
-- or none does.
use Rattle.std.proofs.Common.{◌≡◌, ◌≢◌, inl, inr, ◌⊎◌, ℕ, List, [], ◌∷◌, ◌++◌, length, Option, Some, option_to_list, refl, sym, ap, ap₂, subst, ◌∙◌}
use Rattle.std.proofs.lemmas.List.{append-nil}
use Rattle.page_model.specs.Pages.{Address}
use Rattle.journal_model.specs.Held.{Kind, inserted, rebuilt, versioned, patched, removed, HeldLob, but_last, new_lob, add, add_all}
use Rattle.journal_model.specs.History.{lob_behind}
use Rattle.history_model.specs.Sound.{IsFitting}
use Rattle.store_data.specs.Store.{RowState, live, deleted, Row, Lob, Body, Record, Log, Store}
use Rattle.store_data.specs.Store as bodies
use Rattle.store_data.specs.Logs.{passed}
use Rattle.store_model.specs.Lobs.{lob_of}
use Rattle.store_model.specs.History.{Change, changes, row_before}
use Rattle.store_model.specs.Steps.{last_in, on_lobs, without_lob}
use Rattle.store_model.specs.Undo.{cleared, on_oldest, record_passed}
use Rattle.store_model.specs.Keeps.{Frees}
use Rattle.store_model.specs.Owned.{owned_if, owned_by}
use Rattle.store_model.specs.Well.{AreNamedOnce}
use Rattle.store_model.specs.Consistent.{IsConsistent}
use Rattle.store_model.proofs.LogLemmas.{change}
use Rattle.store_model.proofs.LobLemmas.{lob-without_other}
use Rattle.store_model.proofs.PurgeLemmas.{swept_lobs, swept_changes, swept_row, pass_changes_other}
use Rattle.store_model.proofs.WellBackLemmas.{swept_well, passed_all}
use Rattle.store_model.proofs.GivesLemmas.{pass_chain}
use Rattle.kept_model.specs.Held.{held_lob, held_lobs, change_lobs, lob_pages, lob_list, cut, half_drop, IsOfKind}
use Rattle.kept_model.specs.Pages.{KeepsLobs, AreLobs, PassesLobs}
use Rattle.kept_model.proofs.LobLists.{held_same}
use Rattle.kept_model.proofs.PassLobs.{but_last_of, but_last_all, below_some, was, pages_are, front_off, other_off, old_list, which}

-- ---- the record is passed

module _ (a : Address) (u : Record) (store : Store) (l : Log) (ls : List Log) (all : IsConsistent store) (first : store.committed ≡ l ∷ ls) (oldest : last_in l.records ≡ (a, u) ∷ []) where
  abbrev left : List Change
  left = changes (on_oldest passed store) u.doc

  abbrev its : Change
  its = change l.trx a u

  abbrev top : Row
  top = row_before store u.doc

  abbrev lobs' : List Lob
  lobs' = cleared u.body u.before store.lobs

  abbrev in_front : List ℕ
  in_front = owned_if top.state top.lob.page ++ change_lobs left

  abbrev after : Store
  after = record_passed a l.trx u store

  after_changes : changes after u.doc ≡ left
  after_changes = swept_changes u.body a l.trx u.doc u.doc (on_lobs (cleared u.body u.before) store)

  after_row : owned_if (row_before after u.doc).state (row_before after u.doc).lob.page ≡ owned_if top.state top.lob.page
  after_row = elim (swept_row u.body a l.trx u.doc u.doc (on_lobs (cleared u.body u.before) store)) [
    | inl same ↦ ap (λ (r : Row). owned_if r.state r.lob.page) same
    | inr gone ↦ ap (λ (r : Row). owned_if r.state r.lob.page) gone.0
        ∙ sym (ap (λ (s : RowState). owned_if s top.lob.page) (swept_well a l.trx u.doc u store left (pass_chain a u store l ls all.well first oldest)
        (subst AreNamedOnce (passed_all a u store l ls first oldest) (all.well.places u.doc)) gone.2 gone.3).0)
  ]

  after_list : lob_list after u.doc ≡ held_lobs lobs' in_front
  after_list = ap₂ (λ (xs : List Lob) (ps : List ℕ). held_lobs xs ps) (swept_lobs u.body a l.trx u.doc (on_lobs (cleared u.body u.before) store))
      (ap₂ (λ (ps : List ℕ) (cs : List Change). ps ++ change_lobs cs) after_row after_changes)

  after_others : ((q : ℕ) → q ≢ u.doc → held_lobs lobs' (lob_pages store q) ≡ lob_list store q) → (q : ℕ) → q ≢ u.doc → KeepsLobs store after q
  after_others same q other = record {
    changes = pass_changes_other a u store l ls q first oldest other;
    lobs = ap₂ (λ (xs : List Lob) (ps : List ℕ). held_lobs xs ps) (swept_lobs u.body a l.trx u.doc (on_lobs (cleared u.body u.before) store))
        (ap₂ (λ (r : Row) (cs : List Change). owned_if r.state r.lob.page ++ change_lobs cs)
        (elim (swept_row u.body a l.trx u.doc q (on_lobs (cleared u.body u.before) store)) [ inl kept ↦ kept | inr gone ↦ absurd (other gone.1) ]) (pass_changes_other a u store l ls q first oldest other))
        ∙ same q other;
  }

  passes : ((ks : List Kind) (k : Kind) (gone : List ℕ) (b : Option HeldLob) → AreLobs left its ks k gone b (lob_list store u.doc) → held_lobs lobs' in_front ≡ add_all ks (option_to_list (lob_behind k b)))
      → ((q : ℕ) → q ≢ u.doc → held_lobs lobs' (lob_pages store q) ≡ lob_list store q) → PassesLobs l u.doc store after
  passes step same = record {
    newer = left;
    oldest = its;
    was = was a u store l ls all first oldest;
    mine = refl;
    changes = after_changes;
    step = λ ks k gone b g. after_list ∙ step ks k gone b g;
    others = after_others same;
  }

  -- the LOB before goes
  module _ (frees : Frees u.body) (m : Lob) (there : lob_of store.lobs u.before.lob.page ≡ Some m) where
    cleared_is : lobs' ≡ without_lob u.before.lob.page store.lobs
    cleared_is = by_body u.body frees
      where
        by_body : (b : Body) → Frees b → cleared b u.before store.lobs ≡ without_lob u.before.lob.page store.lobs
        by_body (bodies.inserted q) h = absurd h
        by_body (bodies.rebuilt q) h = refl
        by_body (bodies.versioned pieces touched) h = absurd h
        by_body (bodies.patched old) h = absurd h
        by_body bodies.removed h = refl

    rest_stays : (q : ℕ) → q ≢ u.before.lob.page → lob_of lobs' q ≡ lob_of store.lobs q
    rest_stays q other = ap (λ (xs : List Lob). lob_of xs q) cleared_is ∙ lob-without_other q u.before.lob.page store.lobs other

    but_last_is : (ks : List Kind) (k : Kind) (gone : List ℕ) (x : HeldLob) → (k ≡ removed) ⊎ ((n : ℕ) × (k ≡ rebuilt n)) → but_last (add_all ks (half_drop gone k (add k (x ∷ [])))) ≡ add_all ks (option_to_list (lob_behind k (Some x)))
    but_last_is ks k gone x (inl is) = subst (λ (q : Kind). but_last (add_all ks (half_drop gone q (add q (x ∷ [])))) ≡ add_all ks (option_to_list (lob_behind q (Some x)))) (sym is)
        (but_last_all ks (cut (length gone) x) [])
    but_last_is ks k gone x (inr is) = subst (λ (q : Kind). but_last (add_all ks (half_drop gone q (add q (x ∷ [])))) ≡ add_all ks (option_to_list (lob_behind q (Some x)))) (sym is.1)
        (but_last_all ks (new_lob is.0) (cut (length gone) x ∷ []))

    pub freed_passes : PassesLobs l u.doc store after
    freed_passes = passes
        (λ ks k gone b g. (let w = which a u store l ls all first oldest frees m there k g.kind in
        held_same u.before.lob.page store.lobs lobs' in_front rest_stays (front_off a u store l ls all first oldest frees m there)
        ∙ sym (but_last_of (held_lobs store.lobs in_front) (held_lob m)) ∙ ap but_last (sym (old_list a u store l ls all first oldest frees m there) ∙ g.are)
        ∙ below_some k b g.fits w (λ x is. (ap (λ (o : Option HeldLob). but_last (add_all ks (half_drop gone k (add k (option_to_list o))))) is
        ∙ but_last_is ks k gone x w ∙ ap (λ (o : Option HeldLob). add_all ks (option_to_list (lob_behind k o))) (sym is)))))
        (λ q other. held_same u.before.lob.page store.lobs lobs' (lob_pages store q) rest_stays (other_off a u store l ls all first oldest frees m there q other))

  -- no LOB goes
  module _ (none : owned_by u.body u.before ≡ []) (same : lobs' ≡ store.lobs) where
    front_list : held_lobs lobs' in_front ≡ lob_list store u.doc
    front_list = ap (λ (xs : List Lob). held_lobs xs in_front) same
        ∙ sym (ap (held_lobs store.lobs) (pages_are a u store l ls all first oldest ∙ ap (λ (ps : List ℕ). in_front ++ ps) none ∙ append-nil in_front))

    pub kept_passes : ((ks : List Kind) (k : Kind) (gone : List ℕ) (b : Option HeldLob) → AreLobs left its ks k gone b (lob_list store u.doc) → half_drop gone k (add k (option_to_list b)) ≡ option_to_list (lob_behind k b)) → PassesLobs l u.doc store after
    kept_passes step = passes (λ ks k gone b g. front_list ∙ g.are ∙ ap (add_all ks) (step ks k gone b g)) (λ q other. ap (λ (xs : List Lob). held_lobs xs (lob_pages store q)) same)

  pub inserted_passes : (page : ℕ) → u.body ≡ bodies.inserted page → PassesLobs l u.doc store after
  inserted_passes page is = kept_passes (ap (λ (b : Body). owned_by b u.before) is) (ap (λ (b : Body). cleared b u.before store.lobs) is)
      (λ ks k gone b g. by_kind k gone b (subst (IsOfKind k) is g.kind) g.fits)
    where
      by_kind : (k : Kind) (gone : List ℕ) (b : Option HeldLob) → IsOfKind k (bodies.inserted page) → IsFitting k b → half_drop gone k (add k (option_to_list b)) ≡ option_to_list (lob_behind k b)
      by_kind (inserted n) gone b h fits = ap (λ (o : Option HeldLob). new_lob n ∷ option_to_list o) fits
      by_kind (rebuilt n) gone b h fits = absurd h
      by_kind (versioned t) gone b h fits = absurd h
      by_kind patched gone b h fits = absurd h
      by_kind removed gone b h fits = absurd h

  pub patched_passes : (old : List Rattle.store_data.specs.Store.Run) → u.body ≡ bodies.patched old → PassesLobs l u.doc store after
  patched_passes old is = kept_passes (ap (λ (b : Body). owned_by b u.before) is) (ap (λ (b : Body). cleared b u.before store.lobs) is)
      (λ ks k gone b g. by_kind k gone b (subst (IsOfKind k) is g.kind))
    where
      by_kind : (k : Kind) (gone : List ℕ) (b : Option HeldLob) → IsOfKind k (bodies.patched old) → half_drop gone k (add k (option_to_list b)) ≡ option_to_list (lob_behind k b)
      by_kind patched gone b h = refl
      by_kind (inserted n) gone b h = absurd h
      by_kind (rebuilt n) gone b h = absurd h
      by_kind (versioned t) gone b h = absurd h
      by_kind removed gone b h = absurd h
