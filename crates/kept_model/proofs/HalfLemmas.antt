-- A version is popped, or a piece or an index page freed, before its record's last undo event.
use Rattle.std.proofs.Common.{◌≡◌, ◌≢◌, ℕ, suc, ◌≤◌, List, [], ◌∷◌, Some, refl, sym, ap, subst, ◌∙◌, Option, if◌then◌else◌}
use Rattle.page_model.specs.Pages.{Address}
use Rattle.store_data.specs.Store.{versioned, Row, Version, Piece, Lob, Store}
use Rattle.store_model.specs.Lobs.{lob_of}
use Rattle.store_model.specs.History.{Change, changes, row_before, history_behind}
use Rattle.store_data.specs.Pieces.{popped}
use Rattle.store_model.specs.Steps.{on_lob, on_lobs, at_piece, without_piece, without_index, all_but_first}
use Rattle.store_model.specs.Behind.{AllRows, IsElsewhere, AtPiece}
use Rattle.store_model.specs.Keeps.{IsVersioned, Makes}
use Rattle.store_model.specs.Consistent.{IsConsistent}
use Rattle.store_model.specs.Takes.{piece_of}
use Rattle.store_model.proofs.ConsistentLemmas.{pop_consistent, free_consistent, index_consistent}
use Rattle.store_model.proofs.FurtherLemmas.{same_elsewhere}
use Rattle.store_model.proofs.GivesLemmas.{newest_chain, made_elsewhere, made_live, others_elsewhere, version_live, pop_older, pop_others, freed_older, freed_others, index_older, index_others}
use Rattle.read_model.specs.Flight.{Flight}
use Rattle.read_model.specs.Steps.{moved, leads_to}
use Rattle.read_model.specs.Kinds.{AtOne, AtOthers, IsPushed, HasNoNode}
use Rattle.read_model.specs.Document.{pieces_at}
use Rattle.read_model.proofs.WholeLemmas.{whole_popped}
use Rattle.read_model.proofs.StoreLobLemmas.{free_touches, index_touches}
use Rattle.read_model.proofs.StoreLemmas.{seen_elsewhere, before_elsewhere}
use Rattle.kept_model.specs.Halves.{Halves}
use Rattle.store_model.proofs.ThereLemmas.{lob_is_owned}
use Rattle.kept_model.proofs.AnswerRows.{rows_front}
use Rattle.kept_model.proofs.KindLemmas.{shown_same}
use Rattle.kept_model.proofs.WorkLemmas.{by_touch}

some_behind : (lobs : List Lob) (row : Row) (cs : List Change) (c : Change) (ds : List Change) → cs ≡ c ∷ ds → all_but_first (history_behind [] lobs row cs) ≢ []
some_behind lobs row cs c ds is none =
    let rows = rows_front (c.undo ∷ []) lobs c.undo.before ds in
    cc (sym rows.1 ∙ sym (ap (λ (l : List Change). all_but_first (history_behind [] lobs row l)) is) ∙ none)

module _ (store : Store) (trx d : ℕ) (c : Change) (cs : List Change) (all : IsConsistent store) (e : changes store d ≡ c ∷ cs) (mine : c.trx ≡ trx) (pieces : ℕ) (touched : List ℕ)
    (body : c.undo.body ≡ versioned pieces touched) where
  is_versioned : IsVersioned c.undo.body
  is_versioned = subst IsVersioned (sym body) tt

  pub pop_halves : (m : Lob) → lob_of store.lobs (row_before store d).lob.page ≡ Some m → (k : ℕ) (p : Piece) (x : Version) (xs : List Version) → piece_of k m.pieces ≡ Some p → p.older ≡ x ∷ xs
      → (node head : Address) (free : List Address) → (row_before store d).lob.page ≡ c.undo.before.lob.page
      → ((l : Lob) → lob_of store.lobs (row_before store d).lob.page ≡ Some l → AtPiece k (λ p. (row_before store d).lob.version ≤ p.head.number) l.pieces)
      → AtOne k (IsPushed (suc c.undo.before.lob.version) node head) (HasNoNode node) (pieces_at store.lobs c.undo.before.lob.page)
      → ((q : ℕ) → q ≢ c.undo.before.lob.page → AtOthers (HasNoNode node) (pieces_at store.lobs q))
      → Halves trx d (λ q. moved node head) (on_lob (row_before store d).lob.page (λ l. record (at_piece k popped l) { free = free })) store
  pop_halves m found k p x xs kth older node head free page_is there pushed apart = record {
    consistent = pop_consistent (row_before store d).lob.page m store all found (lob_is_owned store (row_before store d).lob.page m all found) k p x xs free kth older;
    mine = (newest_chain store d c cs all.well e).0.trx ∙ mine;
    behind = some_behind store.lobs (row_before store d) (changes store d) c cs e;
    older = pop_older store d c cs all.well e is_versioned k free there;
    others = λ q other. pop_others store d c cs all.well e is_versioned k free q there (λ g. other (sym g));
    reads = λ sees q parts fl unseen h. subst (λ (n : ℕ). Rattle.read_model.specs.Flight.IsFlight sees (Rattle.read_model.specs.OfStore.document (on_lobs (on_lob n (λ l. record (at_piece k popped l) { free = free })) store) q) parts (moved node head fl)) (sym page_is)
        (whole_popped store d k node head free c cs pieces touched (record { doc = q; sees = sees; shown = parts; flight = fl } ∷ []) all.well e body pushed apart
        ((ap sees mine ∙ unseen), tt) (h, tt)).0;
    still = λ q fl none. ap (λ (a : Option Address). if leads_to a node then (record fl { node = Some head }) else fl) none;
    elsewhere = λ q other.
        let page = (row_before store d).lob.page in
        let off : AllRows (IsElsewhere page) store q = others_elsewhere store d q page all.well (λ g. other (sym g)) (version_live store d c cs all.well e is_versioned) refl in
        record {
          parts = shown_same store.lobs (on_lob page (λ l. record (at_piece k popped l) { free = free }) store.lobs) (row_before store q)
              (same_elsewhere page (λ l. record (at_piece k popped l) { free = free }) store.lobs (λ l. refl) (row_before store q) off.0);
          row = λ is_live. refl;
        };
  }

module _ (store : Store) (trx d : ℕ) (c : Change) (cs : List Change) (all : IsConsistent store) (e : changes store d ≡ c ∷ cs) (mine : c.trx ≡ trx) (page : ℕ) (makes : Makes page c.undo.body) where
  off : (q : ℕ) → q ≢ d → AllRows (IsElsewhere page) store q
  off q other =
      let live_row = made_live store d page c cs all.well e makes in
      others_elsewhere store d q page all.well (λ g. other (sym g)) live_row.0 live_row.1

  pub free_halves : (m : Lob) → lob_of store.lobs page ≡ Some m → (free : List Address) → Halves trx d (λ q f. f) (on_lob page (λ l. record (without_piece l) { free = free })) store
  free_halves m found free = record {
    consistent = free_consistent page m store all found (lob_is_owned store page m all found) free;
    mine = (newest_chain store d c cs all.well e).0.trx ∙ mine;
    behind = some_behind store.lobs (row_before store d) (changes store d) c cs e;
    older = freed_older store d c cs all.well e page makes free;
    others = λ q other. freed_others store d c cs all.well e page makes free q (λ g. other (sym g));
    reads = by_touch store trx d c cs all e mine (on_lob page (λ l. record (without_piece l) { free = free }))
        (λ sees unseen. free_touches sees store d page free (before_elsewhere sees store d page unseen (made_elsewhere store d page c cs all.well e makes)))
        (λ sees q other. free_touches sees store q page free (seen_elsewhere sees store q page (off q other)));
    still = λ q fl none. refl;
    elsewhere = λ q other. record {
      parts = shown_same store.lobs (on_lob page (λ l. record (without_piece l) { free = free }) store.lobs) (row_before store q)
          (same_elsewhere page (λ l. record (without_piece l) { free = free }) store.lobs (λ l. refl) (row_before store q) (off q other).0);
      row = λ is_live. refl;
    };
  }

  pub index_halves : (m : Lob) → lob_of store.lobs page ≡ Some m → (i : ℕ) (is : List ℕ) → m.index ≡ i ∷ is → Halves trx d (λ q f. f) (on_lob page without_index) store
  index_halves m found i is index = record {
    consistent = index_consistent page m store all found (lob_is_owned store page m all found) i is index;
    mine = (newest_chain store d c cs all.well e).0.trx ∙ mine;
    behind = some_behind store.lobs (row_before store d) (changes store d) c cs e;
    older = index_older store d c cs all.well e page makes;
    others = λ q other. index_others store d c cs all.well e page makes q (λ g. other (sym g));
    reads = by_touch store trx d c cs all e mine (on_lob page without_index)
        (λ sees unseen. index_touches sees store d page (before_elsewhere sees store d page unseen (made_elsewhere store d page c cs all.well e makes)))
        (λ sees q other. index_touches sees store q page (seen_elsewhere sees store q page (off q other)));
    still = λ q fl none. refl;
    elsewhere = λ q other. record {
      parts = shown_same store.lobs (on_lob page without_index store.lobs) (row_before store q)
          (same_elsewhere page without_index store.lobs (λ l. refl) (row_before store q) (off q other).0);
      row = λ is_live. refl;
    };
  }
