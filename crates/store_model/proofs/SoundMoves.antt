-- Sound stores stay sound; what each change of a LOB takes or gives.
use Rattle.std.proofs.Common.{◌≡◌, inl, inr, ℕ, ◌+◌, List, [], ◌∷◌, ◌++◌, Some, refl, sym, ap, subst, ◌∙◌, arith}
use Rattle.page_model.specs.Pages.{Address}
use Rattle.page_model.specs.Counts.{times}
use Rattle.store_data.specs.Pieces.{pushed, popped, popped_to, dropped, all_but_last}
use Rattle.store_data.specs.Store.{Version, Piece, Lob, Store}
use Rattle.store_model.specs.Lobs.{lob_of}
use Rattle.store_model.specs.Steps.{on_piece, at_piece, with_piece, without_piece, without_index, with_nodes, last_in, all_but_first}
use Rattle.store_model.specs.Events.{piece_added, version_pushed}
use Rattle.store_model.specs.Undo.{piece_freed, index_freed, version_popped, version_dropped}
use Rattle.store_model.specs.Owned.{owned_lobs, data_page, data_pages, piece_pages, owned, IsNotAmong, AreDifferent, AreSound, IsAmong}
use Rattle.store_model.specs.Takes.{Takes, Gives, piece_of, AreUnowned}
use Rattle.store_model.proofs.LogLemmas.{but_last}
use Rattle.page_model.proofs.CountLemmas.{times-append}
use Rattle.store_model.proofs.CountLemmas.{times_none, different_once, once_different, pieces-append, data-append}
use Rattle.store_model.proofs.TakesLemmas.{lob_moves, piece_moves}
use Rattle.store_model.proofs.SoundLemmas.{among_or_not}

-- ---- soundness by counting

unowned_at : (n : ℕ) (pages : List ℕ) (store : Store) → AreUnowned pages store → IsAmong n pages → IsNotAmong n (owned store)
unowned_at n [] store all there = absurd there
unowned_at n (p ∷ ps) store all there = elim there [ inl same ↦ subst (λ m. IsNotAmong m (owned store)) same all.0 | inr rest ↦ unowned_at n ps store all.1 rest ]

-- a sound store stays sound where it takes different pages that it didn't own
pub sound_takes : (pages : List ℕ) (old new : Store) → AreSound old → AreDifferent pages → AreUnowned pages old → Takes pages old new → AreSound new
sound_takes pages old new sound different unowned takes = once_different (owned new) (λ n. elim (among_or_not n pages) [
  | inl there ↦ let a = takes n in let b = times_none n (owned old) (unowned_at n pages old unowned there) in let c = different_once n pages different in omega (arith, a, b, c)
  | inr none ↦ let a = takes n in let b = different_once n (owned old) sound in let c = times_none n pages none in omega (arith, a, b, c)
])

-- a sound store stays sound where it gives pages back
pub sound_gives : (pages : List ℕ) (old new : Store) → AreSound old → Gives pages old new → AreSound new
sound_gives pages old new sound gives = once_different (owned new) (λ n. let a = gives n in let b = different_once n (owned old) sound in omega (arith, a, b))

-- ---- one LOB that is owned

module _ (page : ℕ) (l : Lob) (store : Store) (sound : AreSound store) (there : lob_of store.lobs page ≡ Some l) (among : IsAmong page (owned_lobs store)) where
  pub push_counts : (k : ℕ) (p : Piece) (node : Address) (v : Version) (index : List ℕ) (free : List Address) (n : ℕ) → piece_of k l.pieces ≡ Some p
      → times n (owned (version_pushed page k node v index free store)) + times n l.index ≡ times n (owned store) + (times n index + times n (data_page l.page v))
  push_counts k p node v index free n is =
      let a = lob_moves page (λ m. with_nodes index free (at_piece k (pushed node v) m)) l store n sound (λ m. refl) there among in
      let b = times-append n l.index (piece_pages l.page l.pieces) in
      let c = times-append n index (piece_pages l.page (on_piece k (pushed node v) l.pieces)) in
      let d = piece_moves k n l.page (pushed node v) l.pieces p is in
      let e = times-append n (data_page l.page v) (data_pages l.page (p.head ∷ p.older)) in omega (arith, a, b, c, d, e)

  pub pop_counts : (k : ℕ) (p : Piece) (x : Version) (xs : List Version) (free : List Address) (n : ℕ) → piece_of k l.pieces ≡ Some p → p.older ≡ x ∷ xs
      → times n (owned (version_popped page k free store)) + times n (data_page l.page p.head) ≡ times n (owned store)
  pop_counts k p x xs free n is older =
      let a = lob_moves page (λ m. record (at_piece k popped m) { free = free }) l store n sound (λ m. refl) there among in
      let b = times-append n l.index (piece_pages l.page l.pieces) in
      let c = times-append n l.index (piece_pages l.page (on_piece k popped l.pieces)) in
      let d = piece_moves k n l.page popped l.pieces p is in
      let e = times-append n (data_page l.page p.head) (data_pages l.page p.older) in
      let g : times n (data_pages l.page ((popped p).head ∷ (popped p).older)) ≡ times n (data_pages l.page p.older) =
      ap (λ (vs : List Version). times n (data_pages l.page ((popped_to p.head.place vs p).head ∷ (popped_to p.head.place vs p).older))) older ∙ sym (ap (λ (vs : List Version). times n (data_pages l.page vs)) older) in
      omega (arith, a, b, c, d, e, g)

  pub drop_counts : (k : ℕ) (p : Piece) (free : List Address) (n : ℕ) → piece_of k l.pieces ≡ Some p
      → times n (owned (version_dropped page k free store)) + times n (data_pages l.page (last_in p.older)) ≡ times n (owned store)
  drop_counts k p free n is =
      let a = lob_moves page (λ m. record (at_piece k dropped m) { free = free }) l store n sound (λ m. refl) there among in
      let b = times-append n l.index (piece_pages l.page l.pieces) in
      let c = times-append n l.index (piece_pages l.page (on_piece k dropped l.pieces)) in
      let d = piece_moves k n l.page dropped l.pieces p is in
      let e = times-append n (data_page l.page p.head) (data_pages l.page p.older) in
      let g = times-append n (data_page l.page p.head) (data_pages l.page (all_but_last p.older)) in
      let h = data-append n l.page (all_but_last p.older) (last_in p.older) in
      let i : times n (data_pages l.page (all_but_last p.older ++ last_in p.older)) ≡ times n (data_pages l.page p.older) = ap (λ (vs : List Version). times n (data_pages l.page vs)) (but_last p.older) in
      omega (arith, a, b, c, d, e, g, h, i)

  pub add_counts : (p : Piece) (index : List ℕ) (free : List Address) (n : ℕ)
      → times n (owned (piece_added page p index free store)) + times n l.index ≡ times n (owned store) + (times n index + times n (data_pages l.page (p.head ∷ p.older)))
  add_counts p index free n =
      let a = lob_moves page (λ m. with_nodes index free (with_piece p m)) l store n sound (λ m. refl) there among in
      let b = times-append n l.index (piece_pages l.page l.pieces) in
      let c = times-append n index (piece_pages l.page (l.pieces ++ p ∷ [])) in
      let d = pieces-append n l.page l.pieces (p ∷ []) in
      let e = times-append n (data_pages l.page (p.head ∷ p.older)) [] in omega (arith, a, b, c, d, e)

  pub free_counts : (free : List Address) (n : ℕ) → times n (owned (piece_freed page free store)) + times n (piece_pages l.page (last_in l.pieces)) ≡ times n (owned store)
  free_counts free n =
      let a = lob_moves page (λ m. record (without_piece m) { free = free }) l store n sound (λ m. refl) there among in
      let b = times-append n l.index (piece_pages l.page l.pieces) in
      let c = times-append n l.index (piece_pages l.page (all_but_last l.pieces)) in
      let d = pieces-append n l.page (all_but_last l.pieces) (last_in l.pieces) in
      let e : times n (piece_pages l.page (all_but_last l.pieces ++ last_in l.pieces)) ≡ times n (piece_pages l.page l.pieces) = ap (λ (ps : List Piece). times n (piece_pages l.page ps)) (but_last l.pieces) in
      omega (arith, a, b, c, d, e)

  pub index_counts : (i : ℕ) (is : List ℕ) (n : ℕ) → l.index ≡ i ∷ is → times n (owned (index_freed page store)) + times n (i ∷ []) ≡ times n (owned store)
  index_counts i is n e =
      let a = lob_moves page without_index l store n sound (λ m. refl) there among in
      let b = times-append n l.index (piece_pages l.page l.pieces) in
      let c = times-append n (all_but_first l.index) (piece_pages l.page l.pieces) in
      let d : times n l.index ≡ times n (i ∷ is) = ap (times n) e in
      let g : times n (all_but_first l.index) ≡ times n is = ap (λ (js : List ℕ). times n (all_but_first js)) e in omega (arith, a, b, c, d, g)
