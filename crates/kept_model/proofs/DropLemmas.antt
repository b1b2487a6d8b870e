-- The events of purge before a record is passed: what they do to a store.
use Rattle.std.proofs.Common.{◌≡◌, ◌≢◌, inl, inr, ℕ, zero, suc, ◌≤◌, Bool, true, false, true≢false, nat_le, is_some, List, [], ◌∷◌, ◌++◌, Option, Some, None, refl, sym, ap, subst, ◌∙◌, arith, if◌then◌else◌}
use Rattle.std.proofs.lemmas.Bool.{cases_eq}
use Rattle.std.proofs.lemmas.Bool.Decides.{leb_tells}
use Rattle.page_model.specs.Pages.{Address}
use Rattle.store_data.specs.Store.{live, Reference, Row, Version, Piece, Lob, Body, inserted, rebuilt, versioned, patched, removed, Record, Log, Store}
use Rattle.store_data.specs.Pieces.{version_at, piece_at, dropped, all_but_last}
use Rattle.store_model.specs.Lobs.{lob_of, pieces_of, part_list}
use Rattle.store_model.specs.History.{Change, Past, history, history_on, history_behind, changes, row_before}
use Rattle.store_data.specs.Logs.{passed}
use Rattle.store_model.specs.Steps.{last_in, on_lob, on_lobs, at_piece, without_piece, without_index}
use Rattle.store_model.specs.Undo.{on_oldest}
use Rattle.store_model.specs.Behind.{AllRows, SameParts, IsElsewhere, AtPiece}
use Rattle.store_model.specs.Purging.{AllTo, FindsWithout}
use Rattle.store_model.specs.Keeps.{IsVersioned, Frees}
use Rattle.store_model.specs.Consistent.{IsConsistent}
use Rattle.store_model.specs.Takes.{piece_of}
use Rattle.store_model.specs.Well.{AllIn, IsKind, IsStep, IsChain}
use Rattle.store_model.proofs.ConsistentLemmas.{drop_consistent, free_consistent, index_consistent}
use Rattle.store_model.proofs.LogLemmas.{change}
use Rattle.store_model.proofs.HistoryLemmas.{history-on, all-rows, same-on}
use Rattle.store_model.proofs.LobLemmas.{parts-on_piece, piece-dropped}
use Rattle.store_model.proofs.ChangeLemmas.{rows_so}
use Rattle.store_model.proofs.FurtherLemmas.{same_elsewhere}
use Rattle.store_model.proofs.ChainLemmas.{IsFrom, all_to, all_to_change, front_elsewhere, front_from}
use Rattle.store_model.proofs.WellBackLemmas.{passed_all}
use Rattle.store_model.proofs.GivesLemmas.{pass_chain, found_later, before_elsewhere, before_freed}
use Rattle.store_model.proofs.PurgeLemmas.{to_rows}
use Rattle.read_model.specs.Document.{Sees}
use Rattle.read_model.specs.Flight.{IsFlight}
use Rattle.read_model.specs.Events.{Touches}
use Rattle.read_model.specs.Kinds.{HasOne, MayDrop, AtOthers, AtOne, MayDropAt, IsElsewhere as SeesElsewhere}
use Rattle.read_model.specs.OfStore.{document}
use Rattle.read_model.proofs.EventLemmas.{kept_where_touched}
use Rattle.read_model.proofs.StoreLemmas.{seen_elsewhere}
use Rattle.read_model.proofs.StoreLobLemmas.{drop_touches, free_touches, index_touches}
use Rattle.read_model.proofs.StorePurgeLemmas.{to_so}
use Rattle.kept_model.specs.Rows.{SameTrx, SameTo}
use Rattle.kept_model.specs.Drops.{Drops}
use Rattle.store_model.proofs.ThereLemmas.{lob_is_owned}
use Rattle.kept_model.proofs.KindLemmas.{shown_same}
use Rattle.kept_model.proofs.PassLemmas.{IsSplit, split, same_trx, same_to, first_of, last_kind}

-- ---- a version that is found without the oldest

has_one : (vs : List Version) (v : ℕ) → is_some (version_at vs v) ≡ true → HasOne v vs
has_one [] v h = absurd (true≢false (sym h))
has_one (x ∷ xs) v h = elim (leb_tells x.number v) [
  | inl low ↦ inl low.1
  | inr high ↦ inr (has_one xs v (by_test (nat_le x.number v) high.0 h))
]
  where
    by_test : (b : Bool) → b ≡ false → is_some (if b then Some x else version_at xs v) ≡ true → is_some (version_at xs v) ≡ true
    by_test true e g = absurd (true≢false e)
    by_test false e g = g

no_others : (ps : List Piece) → AtOthers (λ p. Unit {0}) ps
no_others [] = tt
no_others (p ∷ ps) = (tt, no_others ps)

at_one : (k v : ℕ) (ps : List Piece) → AtPiece k (λ p. is_some (piece_at (dropped p) v) ≡ true) ps → AtOne k (MayDrop v) (λ p. Unit {0}) ps
at_one k v [] each = tt
at_one zero v (p ∷ ps) each = (has_one (p.head ∷ all_but_last p.older) v each, no_others ps)
at_one (suc k) v (p ∷ ps) each = (tt, at_one k v ps each)

later_too : (k n v : ℕ) (ps : List Piece) → n ≤ v → AtPiece k (λ p. is_some (piece_at (dropped p) n) ≡ true) ps → AtPiece k (λ p. is_some (piece_at (dropped p) v) ≡ true) ps
later_too k n v [] up there = tt
later_too zero n v (p ∷ ps) up there = found_later (p.head ∷ all_but_last p.older) n v up there
later_too (suc k) n v (p ∷ ps) up there = later_too k n v ps up there

at_found : (k v : ℕ) (ps : List Piece) → AtPiece k (λ p. is_some (piece_at (dropped p) v) ≡ true) ps → AtPiece k (λ p. part_list (piece_at (dropped p) v) ≡ part_list (piece_at p v)) ps
at_found k v [] each = tt
at_found zero v (p ∷ ps) each = piece-dropped p v each
at_found (suc k) v (p ∷ ps) each = at_found k v ps each

-- ---- an event that changes LOBs alone

module _ (a : Address) (u : Record) (store : Store) (l : Log) (ls : List Log) (all : IsConsistent store) (first : store.committed ≡ l ∷ ls) (oldest : last_in l.records ≡ (a, u) ∷ []) where
  abbrev cs : List Change
  cs = changes (on_oldest passed store) u.doc

  all_is : changes store u.doc ≡ cs ++ change l.trx a u ∷ []
  all_is = passed_all a u store l ls first oldest

  parted : IsSplit [] store.lobs (row_before store u.doc) cs (change l.trx a u)
  parted = split [] store.lobs (row_before store u.doc) cs (change l.trx a u)

  chain : IsChain (row_before store u.doc) (cs ++ change l.trx a u ∷ [])
  chain = pass_chain a u store l ls all.well first oldest

  own_to : (P : Row → Type 0) → AllIn P (row_before store u.doc) cs → AllTo l.trx P (row_before store u.doc) (changes store u.doc)
  own_to P all = subst (AllTo l.trx P (row_before store u.doc)) (sym all_is) (all_to_change P (row_before store u.doc) cs (change l.trx a u) [] chain all)

  module _ (f : List Lob → List Lob) (own : AllTo l.trx (SameParts store.lobs (f store.lobs)) (row_before store u.doc) (changes store u.doc))
      (others : (q : ℕ) → q ≢ u.doc → AllRows (SameParts store.lobs (f store.lobs)) store q)
      (touch_own : (sees : Sees) → sees l.trx ≡ true → Touches sees (document store u.doc) (document (on_lobs f store) u.doc))
      (touch_others : (sees : Sees) (q : ℕ) → q ≢ u.doc → Touches sees (document store q) (document (on_lobs f store) q)) where
    on_old : (q : ℕ) → history store q ≡ history_on store.lobs (row_before store q) (changes store q)
    on_old q = history-on store.lobs (row_before store q) (changes store q)

    on_new : (q : ℕ) → history (on_lobs f store) q ≡ history_on (f store.lobs) (row_before store q) (changes store q)
    on_new q = history-on (f store.lobs) (row_before store q) (changes store q)

    parts_to : (q : ℕ) → AllTo l.trx (SameParts store.lobs (f store.lobs)) (row_before store q) (changes store q)
    parts_to q = elim (cases_eq q u.doc) [
      | inl here ↦ subst (λ (n : ℕ). AllTo l.trx (SameParts store.lobs (f store.lobs)) (row_before store n) (changes store n)) (sym here) own
      | inr other ↦ all_to l.trx (SameParts store.lobs (f store.lobs)) (row_before store q) (changes store q) (others q other)
    ]

    lobs_drop : IsConsistent (on_lobs f store) → Drops l u.doc f store
    lobs_drop consistent = record {
      consistent = consistent;
      newer = parted.newer;
      own = parted.own;
      before = parted.before;
      was = ap (history_behind [] store.lobs (row_before store u.doc)) all_is ∙ parted.all;
      mine = parted.trx chain;
      same = λ q. subst (λ (ps : List Past). SameTrx ps (history (on_lobs f store) q)) (sym (on_old q))
          (subst (SameTrx (history_on store.lobs (row_before store q) (changes store q))) (sym (on_new q)) (same_trx store.lobs (f store.lobs) (row_before store q) (changes store q)));
      bytes = λ q. subst (λ (ps : List Past). SameTo l.trx ps (history (on_lobs f store) q)) (sym (on_old q))
          (subst (SameTo l.trx (history_on store.lobs (row_before store q) (changes store q))) (sym (on_new q)) (same_to l.trx store.lobs (f store.lobs) (row_before store q) (changes store q) (parts_to q)));
      reads = λ sees q parts fl known h. elim (cases_eq q u.doc) [
        | inl here ↦ subst (λ (n : ℕ). IsFlight sees (document (on_lobs f store) n) parts fl) (sym here)
            (kept_where_touched sees (document store u.doc) (document (on_lobs f store) u.doc) parts fl (touch_own sees known) (subst (λ (n : ℕ). IsFlight sees (document store n) parts fl) here h))
        | inr other ↦ kept_where_touched sees (document store q) (document (on_lobs f store) q) parts fl (touch_others sees q other) h
      ];
      shows = λ q. record {
        row = λ is_live. refl;
        parts = shown_same store.lobs (f store.lobs) (row_before store q)
            (first_of l.trx (SameParts store.lobs (f store.lobs)) (row_before store q) (changes store q) (parts_to q));
      };
    }

  -- ---- the LOB before is freed, piece by piece

  module _ (frees : Frees u.body) where
    freed_own : AllTo l.trx (IsElsewhere u.before.lob.page) (row_before store u.doc) (changes store u.doc)
    freed_own = let was = before_freed a u store l ls all.well first oldest frees in
        own_to (IsElsewhere u.before.lob.page) (front_elsewhere (row_before store u.doc) cs (change l.trx a u) [] chain was.1 was.0)

    freed_others : (q : ℕ) → q ≢ u.doc → AllRows (IsElsewhere u.before.lob.page) store q
    freed_others q other = before_elsewhere a u store l ls all.well first oldest q (λ e. other (sym e)) (before_freed a u store l ls all.well first oldest frees).0

    seen_own : (sees : Sees) → sees l.trx ≡ true → SeesElsewhere sees (document store u.doc) u.before.lob.page
    seen_own sees known above older v visible =
        to_so (IsElsewhere u.before.lob.page) sees l.trx (row_before store u.doc) above older v (changes store u.doc) known visible.walk visible.records freed_own

    freed_drop : (g : Lob → Lob) → ((m : Lob) → (g m).page ≡ m.page)
        → ((sees : Sees) (q : ℕ) → SeesElsewhere sees (document store q) u.before.lob.page → Touches sees (document store q) (document (on_lobs (on_lob u.before.lob.page g) store) q))
        → IsConsistent (on_lobs (on_lob u.before.lob.page g) store) → Drops l u.doc (on_lob u.before.lob.page g) store
    freed_drop g same touch = lobs_drop (on_lob u.before.lob.page g)
        (to_rows l.trx (IsElsewhere u.before.lob.page) (SameParts store.lobs (on_lob u.before.lob.page g store.lobs)) (row_before store u.doc) (changes store u.doc)
        (same_elsewhere u.before.lob.page g store.lobs same) freed_own)
        (λ q other. rows_so (IsElsewhere u.before.lob.page) (SameParts store.lobs (on_lob u.before.lob.page g store.lobs)) store q (same_elsewhere u.before.lob.page g store.lobs same) (freed_others q other))
        (λ sees known. touch sees u.doc (seen_own sees known))
        (λ sees q other. touch sees q (seen_elsewhere sees store q u.before.lob.page (freed_others q other)))

    pub piece_drops : (m : Lob) → lob_of store.lobs u.before.lob.page ≡ Some m → (free : List Address) → Drops l u.doc (on_lob u.before.lob.page (λ m. record (without_piece m) { free = free })) store
    piece_drops m found free = freed_drop (λ m. record (without_piece m) { free = free }) (λ m. refl) (λ sees q elsewhere. free_touches sees store q u.before.lob.page free elsewhere)
        (free_consistent u.before.lob.page m store all found (lob_is_owned store u.before.lob.page m all found) free)

    pub index_drops : (m : Lob) → lob_of store.lobs u.before.lob.page ≡ Some m → (i : ℕ) (is : List ℕ) → m.index ≡ i ∷ is → Drops l u.doc (on_lob u.before.lob.page without_index) store
    index_drops m found i is index = freed_drop without_index (λ m. refl) (λ sees q elsewhere. index_touches sees store q u.before.lob.page elsewhere)
        (index_consistent u.before.lob.page m store all found (lob_is_owned store u.before.lob.page m all found) i is index)

  -- ---- a version of it is dropped

  module _ (k : ℕ) (free : List Address) (is_versioned : IsVersioned u.body)
      (stays : (m : Lob) → lob_of store.lobs u.before.lob.page ≡ Some m → AtPiece k (λ p. is_some (piece_at (dropped p) (suc u.before.lob.version)) ≡ true) m.pieces) where
    abbrev drop_at : Lob → Lob
    drop_at m = record (at_piece k dropped m) { free = free }

    from_kind : (b : Body) → IsVersioned b → (q : Row) → IsKind b q u.before → ((r : Row) → IsStep r (change l.trx a u) [] → IsKind b r u.before)
        → u.before.state ≡ live × ((r : Row) → IsStep r (change l.trx a u) [] → IsFrom u.before.lob.page (suc u.before.lob.version) r)
    from_kind (inserted page) v q kind kinds = absurd v
    from_kind (rebuilt page) v q kind kinds = absurd v
    from_kind (versioned pieces touched) v q kind kinds =
        (kind.1, λ r step is_row same. let up : r.lob.version ≡ suc u.before.lob.version = ap (λ (x : Reference). x.version) (kinds r step).2 in omega (arith, up))
    from_kind (patched old) v q kind kinds = absurd v
    from_kind removed v q kind kinds = absurd v

    version_from : u.before.state ≡ live × ((r : Row) → IsStep r (change l.trx a u) [] → IsFrom u.before.lob.page (suc u.before.lob.version) r)
    version_from = let last = last_kind (row_before store u.doc) cs (change l.trx a u) chain in from_kind u.body is_versioned last.0 last.1 (λ r step. step.kind)

    finds : (row : Row) → IsFrom u.before.lob.page (suc u.before.lob.version) row → FindsWithout u.before.lob.page k store.lobs row
    finds row from is_live here m there = later_too k (suc u.before.lob.version) row.lob.version m.pieces (from is_live here) (stays m there)

    find_own : AllTo l.trx (FindsWithout u.before.lob.page k store.lobs) (row_before store u.doc) (changes store u.doc)
    find_own =
        let all = front_from (row_before store u.doc) cs (change l.trx a u) [] chain version_from.1 version_from.0 in
        own_to (FindsWithout u.before.lob.page k store.lobs) (
          finds (row_before store u.doc) all.0,
          all-rows (IsFrom u.before.lob.page (suc u.before.lob.version)) (FindsWithout u.before.lob.page k store.lobs) cs finds all.1,
        )

    drop_others : (q : ℕ) → q ≢ u.doc → AllRows (IsElsewhere u.before.lob.page) store q
    drop_others q other = before_elsewhere a u store l ls all.well first oldest q (λ e. other (sym e)) version_from.0

    may_drop : (sees : Sees) → sees l.trx ≡ true → MayDropAt sees (document store u.doc) u.before.lob.page k
    may_drop sees known above older v visible is_live here =
        by_lob (lob_of store.lobs u.before.lob.page) refl
      where
        there : FindsWithout u.before.lob.page k store.lobs v
        there = to_so (FindsWithout u.before.lob.page k store.lobs) sees l.trx (row_before store u.doc) above older v (changes store u.doc) known visible.walk visible.records find_own

        by_lob : (m : Option Lob) → lob_of store.lobs u.before.lob.page ≡ m → AtOne k (MayDrop v.lob.version) (λ p. Unit {0}) (pieces_of m)
        by_lob None is = tt
        by_lob (Some m) is = at_one k v.lob.version m.pieces (there is_live here m is)

    same_found : (row : Row) → FindsWithout u.before.lob.page k store.lobs row → SameParts store.lobs (on_lob u.before.lob.page drop_at store.lobs) row
    same_found row found = same-on u.before.lob.page drop_at store.lobs row (λ m. refl)
        (λ is_live here m there. parts-on_piece k dropped m.pieces row.lob.version (at_found k row.lob.version m.pieces (found is_live here m there)))

    pub version_drops : (m : Lob) → lob_of store.lobs u.before.lob.page ≡ Some m → (p : Piece) → piece_of k m.pieces ≡ Some p → Drops l u.doc (on_lob u.before.lob.page (λ m. record (at_piece k dropped m) { free = free })) store
    version_drops m found p kth = lobs_drop (on_lob u.before.lob.page drop_at)
        (to_rows l.trx (FindsWithout u.before.lob.page k store.lobs) (SameParts store.lobs (on_lob u.before.lob.page drop_at store.lobs)) (row_before store u.doc) (changes store u.doc)
        same_found find_own)
        (λ q other. rows_so (IsElsewhere u.before.lob.page) (SameParts store.lobs (on_lob u.before.lob.page drop_at store.lobs)) store q
        (same_elsewhere u.before.lob.page drop_at store.lobs (λ m. refl)) (drop_others q other))
        (λ sees known. drop_touches sees store u.doc u.before.lob.page k free (may_drop sees known))
        (λ sees q other. drop_touches sees store q u.before.lob.page k free (λ above older v visible is_live here.
        absurd (seen_elsewhere sees store q u.before.lob.page (drop_others q other) above older v visible is_live here)))
        (drop_consistent u.before.lob.page m store all found (lob_is_owned store u.before.lob.page m all found) k p free kth)
