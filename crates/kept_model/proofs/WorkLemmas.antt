-- The further events of a change, by its kind: a piece of a new LOB is added, a version is pushed.
use Rattle.std.proofs.Common.{◌≡◌, ◌≢◌, inl, inr, ℕ, false, List, ◌∷◌, ◌++◌, Option, Some, refl, sym, ap, subst, ◌∙◌, arith}
use Rattle.std.proofs.lemmas.Bool.{cases_eq}
use Rattle.page_model.specs.Pages.{Address}
use Rattle.store_data.specs.Store.{Version, Piece, Lob, Store}
use Rattle.store_data.specs.Pieces.{Part}
use Rattle.store_model.specs.History.{Change, changes, row_before}
use Rattle.store_data.specs.Pieces.{pushed}
use Rattle.store_model.specs.Steps.{on_lob, on_lobs, with_nodes, with_piece, at_piece}
use Rattle.store_model.specs.Behind.{AllRows, IsElsewhere}
use Rattle.store_model.specs.Keeps.{IsVersioned, Makes}
use Rattle.store_model.specs.Consistent.{IsConsistent}
use Rattle.store_model.specs.Lobs.{lob_of}
use Rattle.store_model.specs.Owned.{AreDifferent, data_page, data_pages}
use Rattle.store_model.specs.Takes.{AreUnowned, piece_of}
use Rattle.store_model.specs.Versions.{AreOlderUpTo}
use Rattle.store_model.proofs.ConsistentLemmas.{add_consistent, push_consistent}
use Rattle.store_model.proofs.FurtherLemmas.{same_elsewhere}
use Rattle.store_model.proofs.GivesLemmas.{newest_chain, made_elsewhere, made_live, others_elsewhere, version_below, version_live, push_older, push_others, piece_older, piece_others}
use Rattle.read_model.specs.Document.{Sees}
use Rattle.read_model.specs.Flight.{Flight, IsFlight}
use Rattle.read_model.specs.Events.{Touches}
use Rattle.read_model.specs.OfStore.{document}
use Rattle.read_model.proofs.EventLemmas.{kept_where_touched}
use Rattle.read_model.proofs.StoreLobLemmas.{add_touches, push_touches}
use Rattle.read_model.proofs.StoreLemmas.{seen_elsewhere, before_elsewhere, before_older}
use Rattle.kept_model.specs.Works.{Works}
use Rattle.store_model.proofs.ThereLemmas.{lob_is_owned}
use Rattle.kept_model.proofs.OwnLemmas.{version_there}
use Rattle.kept_model.proofs.KindLemmas.{shown_same}

module _ (store : Store) (trx d : ℕ) (c : Change) (cs : List Change) (all : IsConsistent store) (e : changes store d ≡ c ∷ cs) (mine : c.trx ≡ trx) where
  pub row_trx : (row_before store d).trx ≡ trx
  row_trx = (newest_chain store d c cs all.well e).0.trx ∙ mine

  -- a read of the document, or of another
  pub by_touch : (f : List Lob → List Lob) → ((sees : Sees) → sees (row_before store d).trx ≡ false → Touches sees (document store d) (document (on_lobs f store) d))
      → ((sees : Sees) (q : ℕ) → q ≢ d → Touches sees (document store q) (document (on_lobs f store) q))
      → (sees : Sees) (q : ℕ) (parts : Option (List Part)) (fl : Flight) → sees trx ≡ false → IsFlight sees (document store q) parts fl → IsFlight sees (document (on_lobs f store) q) parts fl
  by_touch f own others sees q parts fl unseen h = elim (cases_eq q d) [
    | inl here ↦ subst (λ (n : ℕ). IsFlight sees (document (on_lobs f store) n) parts fl) (sym here)
        (kept_where_touched sees (document store d) (document (on_lobs f store) d) parts fl (own sees (ap sees row_trx ∙ unseen)) (subst (λ (n : ℕ). IsFlight sees (document store n) parts fl) here h))
    | inr other ↦ kept_where_touched sees (document store q) (document (on_lobs f store) q) parts fl (others sees q other) h
  ]

  -- a piece is added to the LOB that the change makes
  pub piece_works : (page : ℕ) → Makes page c.undo.body → (m : Lob) → lob_of store.lobs page ≡ Some m → (piece : Piece) (taken : List ℕ) (free : List Address)
      → AreOlderUpTo m.version (piece.head ∷ piece.older) → AreDifferent (taken ++ data_pages m.page (piece.head ∷ piece.older)) → AreUnowned (taken ++ data_pages m.page (piece.head ∷ piece.older)) store
      → Works trx d (on_lob page (λ l. with_nodes (taken ++ m.index) free (with_piece piece l))) store
  piece_works page makes m there piece taken free up different unowned =
      let index = taken ++ m.index in
      let live_row = made_live store d page c cs all.well e makes in
      let apart : (q : ℕ) → q ≢ d → AllRows (IsElsewhere page) store q = λ q other. others_elsewhere store d q page all.well (λ g. other (sym g)) live_row.0 live_row.1 in
      record {
        consistent = add_consistent page m store all there (lob_is_owned store page m all there) piece taken free up different unowned;
        older = piece_older store d c cs all.well e page makes piece index free;
        others = λ q other. piece_others store d c cs all.well e page makes piece index free q (λ g. other (sym g));
        reads = by_touch (on_lob page (λ l. with_nodes index free (with_piece piece l)))
            (λ sees unseen. add_touches sees store d page piece index free (before_elsewhere sees store d page unseen (made_elsewhere store d page c cs all.well e makes)))
            (λ sees q other. add_touches sees store q page piece index free (seen_elsewhere sees store q page (apart q other)));
        elsewhere = λ q other. record {
          parts = shown_same store.lobs (on_lob page (λ l. with_nodes index free (with_piece piece l)) store.lobs) (row_before store q)
              (same_elsewhere page (λ l. with_nodes index free (with_piece piece l)) store.lobs (λ l. refl) (row_before store q) (apart q other).0);
          row = λ is_live. refl;
        };
      }

  -- a version is pushed into the LOB that the change has raised
  pub push_works : IsVersioned c.undo.body → (m : Lob) → lob_of store.lobs (row_before store d).lob.page ≡ Some m
      → (k : ℕ) (p : Piece) → piece_of k m.pieces ≡ Some p → (node : Address) (v : Version) (taken : List ℕ) (free : List Address) → v.number ≡ (row_before store d).lob.version
      → AreDifferent (taken ++ data_page m.page v) → AreUnowned (taken ++ data_page m.page v) store
      → Works trx d (on_lob (row_before store d).lob.page (λ l. with_nodes (taken ++ m.index) free (at_piece k (pushed node v) l))) store
  push_works versioned m there k p kth node v taken free number different unowned =
      let index = taken ++ m.index in
      let page = (row_before store d).lob.page in
      let apart : (q : ℕ) → q ≢ d → AllRows (IsElsewhere page) store q =
      λ q other. others_elsewhere store d q page all.well (λ g. other (sym g)) (version_live store d c cs all.well e versioned) refl in
      record {
        consistent = push_consistent page m store all there (lob_is_owned store page m all there) k p node v taken free kth
            (let same = version_there store d m all (version_live store d c cs all.well e versioned) there in omega (arith, number, same)) different unowned;
        older = push_older store d c cs all.well e versioned k node v index free number;
        others = λ q other. push_others store d c cs all.well e versioned k node v index free q (λ g. other (sym g));
        reads = by_touch (on_lob page (λ l. with_nodes index free (at_piece k (pushed node v) l)))
            (λ sees unseen. push_touches sees store d page k node v index free (before_older sees store d page v.number unseen
            (subst (λ (n : ℕ). Rattle.store_model.specs.Behind.AllBefore (Rattle.store_model.specs.Behind.IsBelow page n) (changes store d)) (sym number) (version_below store d c cs all.well e versioned))))
            (λ sees q other. push_touches sees store q page k node v index free (λ above older w visible is_live here. absurd (seen_elsewhere sees store q page (apart q other) above older w visible is_live here)));
        elsewhere = λ q other. record {
          parts = shown_same store.lobs (on_lob page (λ l. with_nodes index free (at_piece k (pushed node v) l)) store.lobs) (row_before store q)
              (same_elsewhere page (λ l. with_nodes index free (at_piece k (pushed node v) l)) store.lobs (λ l. refl) (row_before store q) (apart q other).0);
          row = λ is_live. refl;
        };
      }
