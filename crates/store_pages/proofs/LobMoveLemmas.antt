-- A LOB of a store that takes a page more or gives one back: pieces added and freed, versions popped and dropped, index pages.
use Rattle.std.proofs.Common.{◌≡◌, ◌≢◌, ℕ, ◌+◌, ◌≤◌, ◌==◌, Bool, cond, List, [], ◌∷◌, ◌++◌, length, Some, refl, ap, ◌∙◌, arith}
use Rattle.std.proofs.lemmas.Bool.{ne_eqb}
use Rattle.page_model.specs.Pages.{Pages, Address}
use Rattle.page_model.specs.Spans.{Span, AreApart}
use Rattle.page_model.specs.Counts.{one_if, times}
use Rattle.page_model.proofs.CountLemmas.{times_here, times-append}
use Rattle.store_data.specs.Store.{Version, Piece, Lob, Store}
use Rattle.store_data.specs.Pieces.{all_but_last, popped, dropped}
use Rattle.lob_model.specs.Pieces.{versions, piece_versions}
use Rattle.lob_model.specs.Places.{whole_page}
use Rattle.lob_model.specs.Lobs.{IsLob, lob_pages, lob_spans, data_pages}
use Rattle.lob_model.specs.Changes.{piece}
use Rattle.store_model.specs.Lobs.{lob_of}
use Rattle.store_model.specs.Steps.{on_lob, on_lobs, on_piece, at_piece, with_nodes, with_piece, without_piece, without_index, all_but_first}
use Rattle.store_model.specs.Events.{piece_added}
use Rattle.store_model.specs.Undo.{piece_freed, index_freed, version_popped, version_dropped}
use Rattle.store_parts.specs.Shows.{IsStore}
use Rattle.store_parts.specs.Keeps.{AreAsMany}
use Rattle.store_parts.proofs.CountLemmas.{on_wider, on_pages}
use Rattle.store_parts.proofs.KeepLemmas.{keeps_take, keeps_give, keeps_write, keeps_then, keeps_same}
use Rattle.store_pages.specs.Lobs.{TakesFor, GivesOf}
use Rattle.store_pages.proofs.OwnedLemmas.{data_split}
use Rattle.store_pages.proofs.LobStoreLemmas.{lob_changed}
use Rattle.store_pages.proofs.PushStoreLemmas.{on_piece_at, data_cut}

none : (ss : List Span) → AreApart ss []
none ss = tt

nowhere : (ms : List ℕ) (n : ℕ) → times n [] ≤ times n ms
nowhere ms n = omega arith

-- ---- whatever changes in it

-- a LOB that stands changed, with a page taken for it, is changed in the store
pub lob_grown : (old new : Pages) (store : Store) → IsStore old store → (page : ℕ) (l : Lob) (f : Lob → Lob) (p : ℕ) → lob_of store.lobs page ≡ Some l
    → IsLob new (f l) → TakesFor l p old new → AreAsMany (p ∷ lob_pages l) (lob_pages (f l)) → IsStore new (on_lobs (on_lob page f) store)
lob_grown old new store is page l f p there lob steps many =
    let own = p ∷ lob_pages l in
    lob_changed old new store is page l f there lob
    (keeps_then [] (lob_pages l) (lob_pages l) (lob_pages (f l)) old steps.written new
    (keeps_write [] (lob_pages l) (lob_spans l) old steps.written (nowhere (lob_pages l)) (none (lob_spans l)) steps.writes (on_pages (lob_pages l)))
    (keeps_then [] (lob_pages l) own (lob_pages (f l)) steps.written steps.taken new
    (keeps_take [] (lob_pages l) p steps.written steps.taken (nowhere (lob_pages l)) steps.takes)
    (keeps_then [] own own (lob_pages (f l)) steps.taken new new
    (keeps_write [] own (whole_page p ∷ lob_spans l) steps.taken new (nowhere own) (none (whole_page p ∷ lob_spans l)) steps.fills
    (times_here p (lob_pages l), on_wider (lob_pages l) own (lob_spans l) (λ n. omega arith) (on_pages (lob_pages l))))
    (keeps_same [] own (lob_pages (f l)) new many))))

-- a LOB that stands changed, with one of its pages given back, is changed in the store
pub lob_shrunk : (old new : Pages) (store : Store) → IsStore old store → (page : ℕ) (l : Lob) (f : Lob → Lob) (p : ℕ) → lob_of store.lobs page ≡ Some l
    → IsLob new (f l) → GivesOf l p old new → AreAsMany (lob_pages l) (p ∷ lob_pages (f l)) → IsStore new (on_lobs (on_lob page f) store)
lob_shrunk old new store is page l f p there lob steps many =
    lob_changed old new store is page l f there lob
    (keeps_then [] (lob_pages l) (lob_pages l) (lob_pages (f l)) old steps.written new
    (keeps_write [] (lob_pages l) (lob_spans l) old steps.written (nowhere (lob_pages l)) (none (lob_spans l)) steps.writes (on_pages (lob_pages l)))
    (keeps_give [] (lob_pages l) (lob_pages (f l)) p steps.written new (nowhere (lob_pages l)) (λ n. let m = many n in omega (arith, m)) steps.gives))

-- ---- the pages, counted

pages_at : (n : ℕ) (l : Lob) (ps : List Piece) → l.pieces ≡ ps → times n (lob_pages l) ≡ one_if (l.page == n) + (times n l.index + times n (data_pages l.page (versions ps)))
pages_at n l ps is =
    let a = times-append n l.index (data_pages l.page (versions l.pieces)) in
    let e : times n (data_pages l.page (versions l.pieces)) ≡ times n (data_pages l.page (versions ps)) = ap (λ qs. times n (data_pages l.page (versions qs))) is in
    omega (arith, a, e)

data_one : (n first : ℕ) (x : Version) (more : List Version) → x.page ≢ first → times n (data_pages first (x ∷ more)) ≡ one_if (x.page == n) + times n (data_pages first more)
data_one n first x more other = ap (λ (b : Bool). times n (cond b (data_pages first more) (x.page ∷ data_pages first more))) (ne_eqb x.page first other)

cut_last : {A : Type 0} (xs : List A) (x : A) → all_but_last (xs ++ x ∷ []) ≡ xs
cut_last [] x = refl
cut_last (y ∷ []) x = refl
cut_last (y ∷ z ∷ zs) x = ap (λ ws. y ∷ ws) (cut_last (z ∷ zs) x)

-- ---- the events

-- a piece added to a LOB, with a page taken for its data, is added in the store
pub piece_added_in : (old new : Pages) (store : Store) (page : ℕ) (l : Lob) (x : Version) (free : List Address) → IsStore old store → lob_of store.lobs page ≡ Some l
    → x.page ≢ l.page → IsLob new (with_nodes l.index free (with_piece (piece x []) l)) → TakesFor l x.page old new → IsStore new (piece_added page (piece x []) l.index free store)
piece_added_in old new store page l x free is there other lob steps =
    lob_grown old new store is page l (λ m. with_nodes l.index free (with_piece (piece x []) m)) x.page there lob steps many
  where
    many : AreAsMany (x.page ∷ lob_pages l) (lob_pages (with_nodes l.index free (with_piece (piece x []) l)))
    many n =
        let a = pages_at n l l.pieces refl in
        let b = pages_at n (with_nodes l.index free (with_piece (piece x []) l)) (l.pieces ++ piece x [] ∷ []) refl in
        let c = data_cut n l.page l.pieces (piece x []) [] in
        let d = data_one n l.page x [] other in
        omega (arith, a, b, c, d)

-- a piece's newest version popped, and its data page given back, is popped in the store
pub version_popped_in : (old new : Pages) (store : Store) (page : ℕ) (l : Lob) (bs : List Piece) (h x : Version) (more : List Version) (cs : List Piece) (free : List Address)
    → IsStore old store → lob_of store.lobs page ≡ Some l → l.pieces ≡ bs ++ piece h (x ∷ more) ∷ cs → h.page ≢ l.page
    → IsLob new (record (at_piece (length bs) popped l) { free = free }) → GivesOf l h.page old new → IsStore new (version_popped page (length bs) free store)
version_popped_in old new store page l bs h x more cs free is there pieces other lob steps =
    lob_shrunk old new store is page l (λ m. record (at_piece (length bs) popped m) { free = free }) h.page there lob steps many
  where
    many : AreAsMany (lob_pages l) (h.page ∷ lob_pages (record (at_piece (length bs) popped l) { free = free }))
    many n =
        let a = pages_at n l (bs ++ piece h (x ∷ more) ∷ cs) pieces in
        let b = pages_at n (record (at_piece (length bs) popped l) { free = free }) (bs ++ popped (piece h (x ∷ more)) ∷ cs) (ap (on_piece (length bs) popped) pieces ∙ on_piece_at popped bs (piece h (x ∷ more)) cs) in
        let c = data_cut n l.page bs (piece h (x ∷ more)) cs in
        let d = data_cut n l.page bs (popped (piece h (x ∷ more))) cs in
        let e = data_one n l.page h (x ∷ more) other in
        let s : times n (data_pages l.page (piece_versions (popped (piece h (x ∷ more))))) ≡ times n (data_pages l.page (x ∷ more)) = refl in
        omega (arith, a, b, c, d, e, s)

-- a piece's oldest version dropped, and its data page given back, is dropped in the store
pub version_dropped_in : (old new : Pages) (store : Store) (page : ℕ) (l : Lob) (bs : List Piece) (h : Version) (ys : List Version) (x : Version) (cs : List Piece) (free : List Address)
    → IsStore old store → lob_of store.lobs page ≡ Some l → l.pieces ≡ bs ++ piece h (ys ++ x ∷ []) ∷ cs → x.page ≢ l.page
    → IsLob new (record (at_piece (length bs) dropped l) { free = free }) → GivesOf l x.page old new → IsStore new (version_dropped page (length bs) free store)
version_dropped_in old new store page l bs h ys x cs free is there pieces other lob steps =
    lob_shrunk old new store is page l (λ m. record (at_piece (length bs) dropped m) { free = free }) x.page there lob steps many
  where
    without : dropped (piece h (ys ++ x ∷ [])) ≡ piece h ys
    without = ap (λ older. piece h older) (cut_last ys x)

    many : AreAsMany (lob_pages l) (x.page ∷ lob_pages (record (at_piece (length bs) dropped l) { free = free }))
    many n =
        let a = pages_at n l (bs ++ piece h (ys ++ x ∷ []) ∷ cs) pieces in
        let b = pages_at n (record (at_piece (length bs) dropped l) { free = free }) (bs ++ piece h ys ∷ cs)
        (ap (on_piece (length bs) dropped) pieces ∙ on_piece_at dropped bs (piece h (ys ++ x ∷ [])) cs ∙ ap (λ q. bs ++ q ∷ cs) without) in
        let c = data_cut n l.page bs (piece h (ys ++ x ∷ [])) cs in
        let d = data_cut n l.page bs (piece h ys) cs in
        let e = data_split n l.page (h ∷ ys) (x ∷ []) in
        let o = data_one n l.page x [] other in
        omega (arith, a, b, c, d, e, o)

-- a LOB's last piece freed, and its data page given back, is freed in the store
pub piece_freed_in : (old new : Pages) (store : Store) (page : ℕ) (l : Lob) (ps : List Piece) (x : Version) (free : List Address) → IsStore old store → lob_of store.lobs page ≡ Some l
    → l.pieces ≡ ps ++ piece x [] ∷ [] → x.page ≢ l.page → IsLob new (record (without_piece l) { free = free }) → GivesOf l x.page old new → IsStore new (piece_freed page free store)
piece_freed_in old new store page l ps x free is there pieces other lob steps =
    lob_shrunk old new store is page l (λ m. record (without_piece m) { free = free }) x.page there lob steps many
  where
    many : AreAsMany (lob_pages l) (x.page ∷ lob_pages (record (without_piece l) { free = free }))
    many n =
        let a = pages_at n l (ps ++ piece x [] ∷ []) pieces in
        let b = pages_at n (record (without_piece l) { free = free }) ps (ap (λ qs. all_but_last qs) pieces ∙ cut_last ps (piece x [])) in
        let c = data_cut n l.page ps (piece x []) [] in
        let d = data_one n l.page x [] other in
        omega (arith, a, b, c, d)

-- a LOB's first index page out of the chain, and given back, is freed in the store
pub index_freed_in : (old new : Pages) (store : Store) (page : ℕ) (l : Lob) (i : ℕ) (is' : List ℕ) → IsStore old store → lob_of store.lobs page ≡ Some l
    → l.index ≡ i ∷ is' → IsLob new (without_index l) → GivesOf l i old new → IsStore new (index_freed page store)
index_freed_in old new store page l i is' is there index lob steps =
    lob_shrunk old new store is page l without_index i there lob steps many
  where
    many : AreAsMany (lob_pages l) (i ∷ lob_pages (without_index l))
    many n =
        let a = pages_at n l l.pieces refl in
        let b = pages_at n (without_index l) l.pieces refl in
        let c : times n l.index ≡ one_if (i == n) + times n is' = ap (λ ns. times n ns) index in
        let d : times n (all_but_first l.index) ≡ times n is' = ap (λ ns. times n (all_but_first ns)) index in
        omega (arith, a, b, c, d)
