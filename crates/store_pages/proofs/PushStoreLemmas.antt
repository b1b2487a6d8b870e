-- A version pushed in a LOB, as a step of the store.
use Rattle.std.proofs.Common.{◌≡◌, ◌≢◌, inl, inr, ℕ, ◌+◌, ◌≤◌, ◌==◌, Bool, cond, List, [], ◌∷◌, ◌++◌, length, map, Some, refl, sym, ap, subst, ◌∙◌, arith}
use Rattle.std.proofs.lemmas.Bool.{ne_eqb, eq-eqb}
use Rattle.page_model.specs.Pages.{Pages, Address}
use Rattle.page_model.specs.Spans.{Span, AreApart}
use Rattle.page_model.specs.Lists.{node_span}
use Rattle.page_model.specs.Counts.{one_if, times}
use Rattle.store_data.specs.Pieces.{pushed}
use Rattle.store_data.specs.Store.{Version, Piece, Lob, Store}
use Rattle.lob_model.specs.Pieces.{versions, piece_versions, place_of}
use Rattle.lob_model.specs.Places.{entry_span, whole_page, IsAmong, IsEntryPlace, AreEntryPlaces}
use Rattle.lob_model.specs.Lobs.{IsLob, lob_pages, lob_spans, data_pages}
use Rattle.lob_model.specs.Changes.{with_pieces, push_spans, fields_span}
use Rattle.lob_model.proofs.SplitLemmas.{versions_cut, places_cut}
use Rattle.lob_model.proofs.NodeLemmas.{places_split}
use Rattle.lob_model.proofs.PushLemmas.{fresh_other, pushed_stands}
use Rattle.store_model.specs.Lobs.{lob_of}
use Rattle.store_model.specs.Steps.{on_piece, at_piece, with_nodes}
use Rattle.store_model.specs.Events.{version_pushed}
use Rattle.page_model.proofs.CountLemmas.{times-append, times_here}
use Rattle.store_parts.specs.Standing.{AreOn}
use Rattle.store_parts.specs.Shows.{IsStore}
use Rattle.store_parts.specs.Keeps.{Keeps, AreAsMany}
use Rattle.store_pages.specs.Pushes.{Pushes}
use Rattle.store_parts.proofs.CountLemmas.{on_wider, on_join, on_pages}
use Rattle.store_parts.proofs.KeepLemmas.{keeps_take, keeps_write, keeps_then, keeps_same}
use Rattle.store_pages.proofs.OwnedLemmas.{data_split}
use Rattle.store_pages.specs.Stands.{RowsStand}
use Rattle.store_pages.proofs.LobStoreLemmas.{lob_rows, lob_changed}
use Rattle.store_pages.proofs.UseLemmas.{lob_stands}

-- ---- places of entries lie in pages of the LOB

among_times : (n : ℕ) (ms : List ℕ) → IsAmong n ms → 1 ≤ times n ms
among_times n [] is = absurd is
among_times n (m ∷ more) (inl same) = let e : one_if (m == n) ≡ 1 = ap one_if (eq-eqb m n (sym same)) in omega (arith, e)
among_times n (m ∷ more) (inr rest) = let r = among_times n more rest in omega (arith, r)

place_on : (l : Lob) (a : Address) → IsEntryPlace l.page l.index a → 1 ≤ times a.page (lob_pages l)
place_on l a (inl first) = let e : one_if (l.page == a.page) ≡ 1 = ap one_if (eq-eqb l.page a.page (sym first.0)) in omega (arith, e)
place_on l a (inr other) =
    let r = among_times a.page l.index other.0 in
    let c = times-append a.page l.index (data_pages l.page (versions l.pieces)) in
    omega (arith, r, c)

places_on : (l : Lob) (xs : List Address) → AreEntryPlaces l.page l.index xs → AreOn (lob_pages l) (map node_span xs)
places_on l [] are = tt
places_on l (a ∷ more) are = (place_on l a are.0, places_on l more are.1)

-- ---- plain data

-- a change of the piece of a number changes the one with so many before it
pub on_piece_at : (g : Piece → Piece) (bs : List Piece) (p : Piece) (cs : List Piece) → on_piece (length bs) g (bs ++ p ∷ cs) ≡ bs ++ g p ∷ cs
on_piece_at g [] p cs = refl
on_piece_at g (b ∷ bs) p cs = ap (λ ps. b ∷ ps) (on_piece_at g bs p cs)

-- the data pages of pieces count as those before a piece, its own and those behind it, added up
pub data_cut : (n first : ℕ) (bs : List Piece) (q : Piece) (cs : List Piece)
    → times n (data_pages first (versions (bs ++ q ∷ cs))) ≡ times n (data_pages first (versions bs)) + (times n (data_pages first (piece_versions q)) + times n (data_pages first (versions cs)))
data_cut n first bs q cs =
    let a = data_split n first (versions bs) (piece_versions q ++ versions cs) in
    let b = data_split n first (piece_versions q) (versions cs) in
    let c : times n (data_pages first (versions (bs ++ q ∷ cs))) ≡ times n (data_pages first (versions bs ++ (piece_versions q ++ versions cs))) = ap (λ vs. times n (data_pages first vs)) (versions_cut bs q cs) in
    omega (arith, a, b, c)

none : (ss : List Span) → AreApart ss []
none ss = tt

nowhere : (ms : List ℕ) (n : ℕ) → times n [] ≤ times n ms
nowhere ms n = omega arith

module _ (old new : Pages) (store : Store) (page : ℕ) (l : Lob) (x : Version) (node : Address) (rest : List Address) (bs : List Piece) (p : Piece) (cs : List Piece)
    (is : IsStore old store) (there : lob_of store.lobs page ≡ Some l) (steps : Pushes l x node rest bs p cs old new) where
  abbrev target : Lob
  target = with_pieces (record l { free = rest }) (bs ++ pushed node x p ∷ cs)

  abbrev own : List ℕ
  own = x.page ∷ lob_pages l

  other : x.page ≢ l.page
  other e = fresh_other (with_pieces (record l { free = rest }) (bs ++ p ∷ cs)) x.page steps.pushing.fresh e

  pages_pushed : AreAsMany own (lob_pages target)
  pages_pushed n =
      let a = times-append n l.index (data_pages l.page (versions l.pieces)) in
      let b = times-append n l.index (data_pages l.page (versions (bs ++ pushed node x p ∷ cs))) in
      let c : times n (data_pages l.page (versions l.pieces)) ≡ times n (data_pages l.page (versions (bs ++ p ∷ cs))) = ap (λ ps. times n (data_pages l.page (versions ps))) steps.pieces in
      let d = data_cut n l.page bs p cs in
      let e = data_cut n l.page bs (pushed node x p) cs in
      let f : times n (data_pages l.page (piece_versions (pushed node x p))) ≡ one_if (x.page == n) + times n (data_pages l.page (piece_versions p)) =
      ap (λ (b : Bool). times n (cond b (data_pages l.page (piece_versions p)) (x.page ∷ data_pages l.page (piece_versions p)))) (ne_eqb x.page l.page other) in
      omega (arith, a, b, c, d, e, f)

  lob : IsLob old l
  lob = (lob_stands old store page l is there).0

  all_places : AreEntryPlaces l.page l.index (map place_of (versions l.pieces)) × AreEntryPlaces l.page l.index (l.free ++ [])
  all_places = places_split l.page l.index (map place_of (versions l.pieces)) (l.free ++ []) lob.shape.places

  node_on : 1 ≤ times node.page (lob_pages l)
  node_on = place_on l node (subst (λ ns. AreEntryPlaces l.page l.index (ns ++ [])) steps.free all_places.1).0

  piece_places : AreEntryPlaces l.page l.index (map place_of (piece_versions p))
  piece_places =
      let cut = ap (λ ps. map place_of (versions ps)) steps.pieces ∙ ap (map place_of) (versions_cut bs p cs) ∙ places_cut (versions bs) (piece_versions p ++ versions cs) in
      let some = (places_split l.page l.index (map place_of (versions bs)) (map place_of (piece_versions p ++ versions cs)) (subst (AreEntryPlaces l.page l.index) cut all_places.0)).1 in
      (places_split l.page l.index (map place_of (piece_versions p)) (map place_of (versions cs)) (subst (AreEntryPlaces l.page l.index) (places_cut (piece_versions p) (versions cs)) some)).0

  wider : (ss : List Span) → AreOn (lob_pages l) ss → AreOn own ss
  wider ss on = on_wider (lob_pages l) own ss (λ n. omega arith) on

  push_on : AreOn own (push_spans p node)
  push_on =
      let head = place_on l p.head.place piece_places.0 in
      wider (push_spans p node) (head, (node_on, on_join (lob_pages l) (map node_span (map place_of p.older)) (fields_span p.head.place ∷ []) (places_on l (map place_of p.older) piece_places.1) (head, tt)))

  keeps : Keeps [] (lob_pages l) (lob_pages target) old new
  keeps =
      keeps_then [] (lob_pages l) (lob_pages l) (lob_pages target) old steps.loose new
      (keeps_write [] (lob_pages l) (lob_spans l) old steps.loose (nowhere (lob_pages l)) (none (lob_spans l)) steps.loosens (on_pages (lob_pages l)))
      (keeps_then [] (lob_pages l) own (lob_pages target) steps.loose steps.grown new
      (keeps_take [] (lob_pages l) x.page steps.loose steps.grown (nowhere (lob_pages l)) steps.takes)
      (keeps_then [] own own (lob_pages target) steps.grown steps.filled new
      (keeps_write [] own (entry_span node ∷ whole_page x.page ∷ []) steps.grown steps.filled (nowhere own) (none (entry_span node ∷ whole_page x.page ∷ [])) steps.fills
      ((wider (entry_span node ∷ []) (node_on, tt)).0, (times_here x.page (lob_pages l), tt)))
      (keeps_then [] own own (lob_pages target) steps.filled new new
      (keeps_write [] own (push_spans p node) steps.filled new (nowhere own) (none (push_spans p node)) steps.pushing.outside push_on)
      (keeps_same [] own (lob_pages target) new pages_pushed))))

  same : with_nodes l.index rest (at_piece (length bs) (pushed node x) l) ≡ target
  same = ap (λ ps. let m : Lob = record l { pieces = ps; free = rest } in m) (ap (on_piece (length bs) (pushed node x)) steps.pieces ∙ on_piece_at (pushed node x) bs p cs)

  pub push_in_store : IsStore new (version_pushed page (length bs) node x l.index rest store)
  push_in_store = lob_changed old new store is page l (λ m. with_nodes l.index rest (at_piece (length bs) (pushed node x) m)) there
      (subst (IsLob new) (sym same) (pushed_stands steps.filled new (record l { free = rest }) bs p cs x node steps.pushing))
      (subst (λ m. Keeps [] (lob_pages l) (lob_pages m) old new) (sym same) keeps)

  -- the row pages stand on
  pub push_rows : RowsStand old new
  push_rows = lob_rows old new store is page l (lob_pages target) there keeps
