-- What a read copies is, joined, the document that the store shows under the view.
use Rattle.std.proofs.Common.{◌≡◌, ℕ, Bool, true, false, List, [], ◌∷◌, ◌++◌, map, refl, sym, ap, ap₂, subst, ◌∙◌}
use Rattle.std.specs.Prelude.{Option, Some, None, option_map}
use Rattle.std.proofs.lemmas.List.{append_assoc, append-nil}
use Rattle.store_data.specs.Pieces.{Part, part_of, piece_at}
use Rattle.store_data.specs.Store.{Row, RowState, absent, live, deleted, Version, Piece, Lob, Record, Store}
use Rattle.store_model.specs.Lobs.{part_list, parts, joined, parts_at as parts_listed}
use Rattle.store_model.specs.Runs.{all_laid, put_back}
use Rattle.store_model.specs.History.{Change, changes, row_before, shown, content_behind, history, history_behind, seen}
use Rattle.store_model.specs.Well.{IsChain}
use Rattle.store_model.specs.Ids.{base_of}
use Rattle.read_model.specs.Patches.{Entry, runs, back}
use Rattle.read_model.specs.Document.{Document, Sees, IsSeen, IsVisible, AreDistinct, under, content, part_or, part_at, parts_at, pieces_at}
use Rattle.read_model.specs.Flight.{Flight, Ready, Absent}
use Rattle.read_model.specs.Steps.{opened}
use Rattle.read_model.specs.Events.{Event, AllMove, all_after}
use Rattle.read_model.specs.OfStore.{entry, document}
use Rattle.read_model.proofs.VisibleLemmas.{heads, tails, under_is}
use Rattle.read_model.proofs.WalkLemmas.{answers_view}
use Rattle.read_model.proofs.LobLemmas.{laid_none}

undo_of : Entry → Record
undo_of e = e.1

same_back : (es : List Entry) (x : Part) → put_back (map undo_of es) x ≡ back es x
unfolding undo_of
same_back [] x = refl
same_back (e ∷ es) x = same_back es (all_laid (runs e) x)

back_none : (es : List Entry) → back es (part_or None) ≡ part_or None
back_none [] = refl
back_none (e ∷ es) = ap (back es) (laid_none (runs e)) ∙ back_none es

joined_same : (es : List Entry) (v : ℕ) (ps : List Piece) → joined (map (put_back (map undo_of es)) (parts_listed ps v)) ≡ joined (map (back es) (map (part_at v) ps))
unfolding undo_of
joined_same es v [] = refl
joined_same es v (p ∷ ps) = by_found (piece_at p v) (joined_same es v ps)
  where
    by_found : (o : Option Version) → joined (map (put_back (map undo_of es)) (parts_listed ps v)) ≡ joined (map (back es) (map (part_at v) ps)) → joined (map (put_back (map undo_of es)) (part_list o ++ parts_listed ps v)) ≡ (back es (part_or o)).bytes ++ joined (map (back es) (map (part_at v) ps))
    by_found None rest = rest ∙ ap (λ (x : Part). x.bytes ++ joined (map (back es) (map (part_at v) ps))) (sym (back_none es))
    by_found (Some x) rest = ap₂ (λ (y : Part) (bs : List ℕ). y.bytes ++ bs) (same_back es (part_of x)) rest

content_bytes : (es : List Entry) (lobs : List Lob) (v : Row) → content_behind (map undo_of es) lobs v ≡ option_map joined (content lobs v es)
unfolding undo_of
content_bytes es lobs v = by_state v.state
  where
    by_state : (s : RowState) → shown s (map (put_back (map undo_of es)) (parts lobs v.lob))
        ≡ option_map joined (elim s as (λ s. Option (List Part)) [ absent ↦ None | live ↦ Some (map (back es) (parts_at lobs v.lob)) | deleted ↦ None ])
    by_state absent = refl
    by_state live = ap (λ (bs : List ℕ). Some bs) (joined_same es v.lob.version (pieces_at lobs v.lob.page))
    by_state deleted = refl

seen_behind : (sees : Sees) (lobs : List Lob) (later : List Record) (row : Row) (above older : List Entry) (v : Row) (cs : List Change) → IsSeen sees row above v → map entry cs ≡ above ++ older
    → seen sees (history_behind later lobs row cs) ≡ content_behind (later ++ map undo_of above) lobs v
unfolding undo_of
seen_behind sees lobs later row [] older v [] walk records =
    rw (ap (λ (r : Row). sees r.trx) walk.0 ∙ walk.1) (ap₂ (λ (us : List Record) (r : Row). content_behind us lobs r) (sym (append-nil later)) walk.0)
seen_behind sees lobs later row [] older v (c ∷ cs) walk records =
    rw (ap (λ (r : Row). sees r.trx) walk.0 ∙ walk.1) (ap₂ (λ (us : List Record) (r : Row). content_behind us lobs r) (sym (append-nil later)) walk.0)
seen_behind sees lobs later row (x ∷ xs) older v [] walk records = absurd (nil_cons records)
  where
    nil_cons : [] ≡ x ∷ (xs ++ older) → ⊥
    nil_cons h = cc
seen_behind sees lobs later row (x ∷ xs) older v (c ∷ cs) walk records =
    let same : entry c ≡ x = heads (entry c) x (map entry cs) (xs ++ older) records in
    let rest = seen_behind sees lobs (later ++ c.undo ∷ []) c.undo.before xs older v cs
    (subst (λ (r : Row). IsSeen sees r xs v) (ap (λ (e : Entry). e.1.before) (sym same)) walk.2) (tails (entry c) x (map entry cs) (xs ++ older) records) in
    rw walk.0 (rest ∙ ap (λ (us : List Record). content_behind us lobs v)
    (append_assoc later (c.undo ∷ []) (map undo_of xs) ∙ ap (λ (e : Entry). later ++ undo_of e ∷ map undo_of xs) same))

-- what the view sees of the document is what the store shows of it
pub shows : (sees : Sees) (store : Store) (d : ℕ) (above older : List Entry) (v : Row) → IsVisible sees (document store d) above older v
    → seen sees (history store d) ≡ option_map joined (content store.lobs v above)
unfolding undo_of
shows sees store d above older v visible =
    seen_behind sees store.lobs [] (row_before store d) above older v (changes store d) visible.walk visible.records ∙ content_bytes above store.lobs v

-- ---- in a chain whose oldest row is seen, a row is visible

pub record Found (sees : Sees) (row : Row) (cs : List Change) : Type 0 where
  pub above : List Entry
  pub older : List Entry
  pub v : Row
  pub records : map entry cs ≡ above ++ older
  pub walk : IsSeen sees row above v

found_in : (sees : Sees) (row : Row) (cs : List Change) → IsChain row cs → sees (base_of row cs).trx ≡ true → Found sees row cs
found_in sees row [] chain seen = record { above = []; older = []; v = row; records = refl; walk = (refl, seen) }
found_in sees row (c ∷ cs) chain seen = by_test (sees row.trx) refl (found_in sees c.undo.before cs chain.1 seen)
  where
    by_test : (b : Bool) → sees row.trx ≡ b → Found sees c.undo.before cs → Found sees row (c ∷ cs)
    by_test true is rest = record { above = []; older = entry c ∷ map entry cs; v = row; records = refl; walk = (refl, is) }
    by_test false is rest = record {
      above = entry c ∷ rest.above;
      older = rest.older;
      v = rest.v;
      records = ap (λ (es : List Entry). entry c ∷ es) rest.records;
      walk = (is, chain.0.roll, rest.walk);
    }

-- in a whole chain whose oldest row the view sees, there is a row that it sees of the document
pub visible_in : (sees : Sees) (store : Store) (d : ℕ) → IsChain (row_before store d) (changes store d) → sees (base_of (row_before store d) (changes store d)).trx ≡ true
    → (above : List Entry) × (older : List Entry) × (v : Row) × IsVisible sees (document store d) above older v
visible_in sees store d chain seen = let f = found_in sees (row_before store d) (changes store d) chain seen in (f.above, f.older, f.v, record { records = f.records; walk = f.walk })

-- whatever comes between its events, a read answers what the store showed to its view at the first of them
pub answers_store : (sees : Sees) (store : Store) (d : ℕ) (above older : List Entry) (v : Row) (xs : List (Event × Document)) → AreDistinct (document store d).records
    → IsVisible sees (document store d) above older v → AllMove sees (document store d) xs → (g : Flight) → g ≡ all_after sees (document store d) xs (opened sees (document store d))
    → (g.phase ≡ Ready → seen sees (history store d) ≡ Some (joined g.copied)) × (g.phase ≡ Absent → seen sees (history store d) ≡ None)
answers_store sees store d above older v xs distinct visible moves g is =
    let answer = answers_view sees (document store d) above older v xs distinct visible moves g is in
    let same : seen sees (history store d) ≡ option_map joined (under sees (document store d)) =
    shows sees store d above older v visible ∙ ap (option_map joined) (sym (under_is sees (document store d) above older v visible)) in
    (λ ready. same ∙ ap (option_map joined) (answer.0 ready), λ none. same ∙ ap (option_map joined) (answer.1 none))
