-- A version popped, and one dropped, call by call.
use Rattle.std.proofs.Common.{◌≡◌, ◌⊎◌, inr, ℕ, ◌+◌, ◌≤◌, List, [], ◌∷◌, ◌++◌, map, Option, Some, None, refl, sym, ap, ◌∙◌, subst, lit≤, arith}
use Rattle.page_model.specs.Pages.{Pages, Address}
use Rattle.page_model.specs.Spans.{IsApartFromAll, AreApart, SameOutside}
use Rattle.page_model.specs.Lists.{IsList, list_spans, node_span, base_span}
use Rattle.page_model.specs.Counts.{has, covers}
use Rattle.page_model.proofs.CoverLemmas.{covers_cons, covers_nil, covers_once, map_wide, from_all_by, across_by}
use Rattle.page_model.proofs.FrameLemmas.{outside_then, outside_wider, off_parts}
use Rattle.page_model.proofs.ListLemmas.{list_kept}
use Rattle.page_model.specs.Steps.{PageState, MayUse, Uses, Told, Becomes}
use Rattle.page_model.proofs.StepLemmas.{may_less, may_within, may_name, uses_more, uses_within, uses_unnamed, uses_at_most, within_left, within_two, told_step}
use Rattle.engine_base.specs.Faults.{Oddity, IsHonest}
use Rattle.engine_base.specs.declared.fault.Fault.{Fault}
use Rattle.engine_base.specs.declared.fault.Fault.TheVariants.{Device, Strange}
use Rattle.file_lists.specs.Changes.{ChangesList}
use Rattle.page_space.specs.Map.{IsMap, map_spans}
use Rattle.store_data.specs.Store.{Version, Piece, Lob}
use Rattle.store_data.specs.Pieces.{all_but_last, popped, dropped}
use Rattle.lob_model.specs.Pieces.{place_of}
use Rattle.lob_model.specs.Places.{versions_base}
use Rattle.lob_model.specs.Lobs.{IsEntryOf, IsLob, lob_parts, lob_pages, lob_spans}
use Rattle.lob_model.specs.Changes.{with_pieces, piece, fields_span, Popping, Dropping}
use Rattle.lob_model.proofs.PartLemmas.{fields_kept}
use Rattle.lob_model.proofs.CoverLemmas.{nodes_covered}
use Rattle.lob_model.proofs.FreeLemmas.{parts_covers}
use Rattle.lob_model.proofs.NodeLemmas.{within_pages}
use Rattle.lob_model.proofs.CutLemmas.{entries_cut, node_tail, base_fields, fields_wide}
use Rattle.lob_model.proofs.PopLemmas.{popped_stands}
use Rattle.lob_model.proofs.DropLemmas.{dropped_stands}
use Rattle.lob_model.proofs.SplitLemmas.{places_cut}
use Rattle.store_parts.proofs.KeepLemmas.{keeps_then}
use Rattle.lob_pages.specs.declared.entry.Entry.{Entry}
use Rattle.lob_pages.specs.Entries.{HasEntryFields, IsEntryAt, SetsEntryFields}
use Rattle.lob_index.specs.Use.{AreUsed}
use Rattle.lob_index.specs.Data.{data_given}
use Rattle.lob_index.specs.Meanwhile.{IsMeanwhile}
use Rattle.lob_index.proofs.GivenLemmas.{data_one, data_split}
use Rattle.lob_versions.specs.declared.release.End.{End}
use Rattle.lob_versions.specs.Releases.{CanRelease, Releases, IsOddRelease}
use Rattle.lob_versions.specs.declared.drops.Oldest.{Oldest}
use Rattle.lob_versions.specs.Versions.{LosesVersion, IsOddGivingUp}
use Rattle.lob_versions.proofs.PieceLemmas.{version_in, list_in}
use Rattle.lob_index.proofs.OwnLemmas.{pages_of, off_join, map_same, used_same, gives_behind, keeps_own}
use Rattle.lob_versions.proofs.DataLemmas.{pages_cut}

-- ---- the bytes of a version list

-- the version list of a head and its fields have no byte in common, and both lie in the LOB
pub list_inside : (l : Lob) (bs : List Piece) (h : Version) (zs : List Version) (cs : List Piece) (n k : ℕ)
    → covers (list_spans (versions_base h.place) (map place_of zs)) n k + has (fields_span h.place) n k ≤ covers (lob_parts (with_pieces l (bs ++ piece h zs ∷ cs)) []) n k
list_inside l bs h zs cs n k =
    omega (
      arith,
      parts_covers (with_pieces l (bs ++ piece h zs ∷ cs)) [] n k,
      entries_cut bs (piece h zs) cs n k,
      covers_cons (base_span (versions_base h.place)) (map node_span (map place_of zs)) n k,
      base_fields h.place n k,
      node_tail h.place n k,
      nodes_covered (map place_of zs) n k,
    )

module _ (pages : Pages) (l : Lob) (bs : List Piece) (h : Version) (zs : List Version) (cs : List Piece) (is : IsLob pages (with_pieces l (bs ++ piece h zs ∷ cs))) where
  -- a change of the version list lies in the LOB's pages
  pub list_in_pages : (a b : Pages) → SameOutside (list_spans (versions_base h.place) (map place_of zs)) a b → SameOutside (lob_spans (with_pieces l (bs ++ piece h zs ∷ cs))) a b
  list_in_pages a b same = within_pages (list_spans (versions_base h.place) (map place_of zs)) a b (with_pieces l (bs ++ piece h zs ∷ cs)) [] is.shape (λ n k. omega (arith, list_inside l bs h zs cs n k)) same

  -- so does one of the head's fields
  pub fields_in_pages : (a b : Pages) → SameOutside (fields_span h.place ∷ []) a b → SameOutside (lob_spans (with_pieces l (bs ++ piece h zs ∷ cs))) a b
  fields_in_pages a b same = within_pages (fields_span h.place ∷ []) a b (with_pieces l (bs ++ piece h zs ∷ cs)) [] is.shape
      (λ n k. omega (arith, list_inside l bs h zs cs n k, covers_cons (fields_span h.place) [] n k, covers_nil n k)) same

  once : (n k : ℕ) → covers (list_spans (versions_base h.place) (map place_of zs)) n k + has (fields_span h.place) n k ≤ 1
  once n k = omega (arith, list_inside l bs h zs cs n k, covers_once (lob_parts (with_pieces l (bs ++ piece h zs ∷ cs)) []) is.shape.apart n k)

  fields_far : IsApartFromAll (list_spans (versions_base h.place) (map place_of zs)) (fields_span h.place)
  fields_far = from_all_by (list_spans (versions_base h.place) (map place_of zs)) (fields_span h.place) (lit≤ tt, map_wide node_span (map place_of zs) (λ a. lit≤ tt)) (fields_wide h.place) once

  list_far : AreApart (fields_span h.place ∷ []) (list_spans (versions_base h.place) (map place_of zs))
  list_far = across_by (fields_span h.place ∷ []) (list_spans (versions_base h.place) (map place_of zs)) (fields_wide h.place, tt) (lit≤ tt, map_wide node_span (map place_of zs) (λ a. lit≤ tt))
      (λ n k. omega (arith, once n k, covers_cons (fields_span h.place) [] n k, covers_nil n k))

-- ---- popped

-- the fields that were read and written are those of the version
pub fields_of : (pages new : Pages) (x : Version) (a : Address) (e : Entry) → IsEntryAt pages x.place e → IsEntryOf pages x.place x → HasEntryFields new a e → IsEntryOf new a x
fields_of pages new x a e read is wrote = record {
  creator = wrote.creator ∙ sym read.fields.creator ∙ is.creator;
  modifier = wrote.modifier ∙ sym read.fields.modifier ∙ is.modifier;
  creator_undo = wrote.creator_undo ∙ sym read.fields.creator_undo ∙ is.creator_undo;
  modifier_undo = wrote.modifier_undo ∙ sym read.fields.modifier_undo ∙ is.modifier_undo;
  page = wrote.page ∙ sym read.fields.page ∙ is.page;
  long = wrote.long ∙ sym read.fields.long ∙ is.long;
  number = wrote.number ∙ sym read.fields.number ∙ is.number;
}

module _ (pages : Pages) (l : Lob) (bs : List Piece) (h x : Version) (more : List Version) (cs : List Piece) (is : IsLob pages (with_pieces l (bs ++ piece h (x ∷ more) ∷ cs))) where
  popping : (p1 p2 : Pages) → SameOutside (fields_span h.place ∷ []) pages p1 → IsEntryOf p1 h.place x → ChangesList (versions_base h.place) (x.place ∷ map place_of more) (map place_of more) p1 p2
      → Popping pages p2 l bs h x more cs
  popping p1 p2 same here changes =
      let lists = list_spans (versions_base h.place) (map place_of (x ∷ more)) in
      let fields = fields_span h.place ∷ [] in record {
        lob = is;
        outside = outside_wider (fields ++ lists) (lists ++ fields) pages p2 (λ n k off. let parts = off_parts lists fields n k off in off_join fields lists n k parts.1 parts.0)
            (outside_then fields lists pages p1 p2 same changes.outside);
        list = changes.list;
        here = fields_kept lists p1 p2 h.place x changes.outside (fields_far pages l bs h (x ∷ more) cs is) here;
      }

  -- behind the writing of the fields the node may be given up
  pub pop_can : (p1 : Pages) → IsMap pages → AreUsed pages (lob_pages (with_pieces l (bs ++ piece h (x ∷ more) ∷ cs))) → SameOutside (fields_span h.place ∷ []) pages p1 → IsEntryOf p1 h.place x
      → CanRelease (lob_pages (with_pieces l (bs ++ piece h (x ∷ more) ∷ cs))) (with_pieces l (bs ++ popped (piece h (x ∷ more)) ∷ cs)) h.place x.place [] (map place_of more) h.page p1
  pop_can p1 map' used same here =
      let p = piece h (x ∷ more) in
      let own = lob_pages (with_pieces l (bs ++ p ∷ cs)) in
      let within = fields_in_pages pages l bs h (x ∷ more) cs is pages p1 same in record {
        list = list_kept (fields_span h.place ∷ []) pages p1 (versions_base h.place) (x.place ∷ map place_of more) same (list_far pages l bs h (x ∷ more) cs is) (list_in pages (with_pieces l (bs ++ p ∷ cs)) bs p cs is refl);
        loosens = λ mid changes. (popped_stands pages mid l bs h x more cs (popping p1 mid same here changes), list_in_pages pages l bs h (x ∷ more) cs is p1 mid changes.outside);
        map' = map_same own pages p1 used.other within map';
        used = used_same own pages p1 used.other within own used;
        cut = λ n. pages_cut n l bs p (popped p) cs (data_given l.page h.page) (data_one n l.page h (x ∷ more));
      }

  -- and then the version is popped
  pub pop_loses : (p1 new : Pages) → AreUsed pages (lob_pages (with_pieces l (bs ++ piece h (x ∷ more) ∷ cs))) → SameOutside (fields_span h.place ∷ []) pages p1
      → Releases (lob_pages (with_pieces l (bs ++ piece h (x ∷ more) ∷ cs))) (with_pieces l (bs ++ popped (piece h (x ∷ more)) ∷ cs)) x.place h.page p1 new
      → LosesVersion l bs (piece h (x ∷ more)) (popped (piece h (x ∷ more))) cs x.place h.page pages new
  pop_loses p1 new used same r =
      let p = piece h (x ∷ more) in
      let own = lob_pages (with_pieces l (bs ++ p ∷ cs)) in
      let within = fields_in_pages pages l bs h (x ∷ more) cs is pages p1 same in record {
        lob' = r.lob';
        gives = gives_behind own pages p1 used.other within (data_given l.page h.page) new r.gives;
        outside = outside_wider (pages_of own ++ (map_spans ++ pages_of own)) (map_spans ++ pages_of own) pages new
            (λ n k off. off_join (pages_of own) (map_spans ++ pages_of own) n k (off_parts map_spans (pages_of own) n k off).1 off)
            (outside_then (pages_of own) (map_spans ++ pages_of own) pages p1 new within r.outside);
        keeps = keeps_then [] own own (lob_pages (with_pieces l (bs ++ popped p ∷ cs))) pages p1 new (keeps_own own pages p1 used.other within) r.keeps;
      }

-- behind the writing of the fields that were read, as the code names them
pub pop_ready : (t1 t2 : Option Pages) (pages : Pages) (l : Lob) (bs : List Piece) (h x : Version) (more : List Version) (cs : List Piece) (e : Entry) (head node : Address) (page : ℕ) → t1 ≡ Some pages
    → IsLob pages (with_pieces l (bs ++ piece h (x ∷ more) ∷ cs)) → IsMap pages → AreUsed pages (lob_pages (with_pieces l (bs ++ piece h (x ∷ more) ∷ cs)))
    → h.place ≡ head → node ≡ x.place → page ≡ h.page → IsEntryAt pages x.place e → Told (SetsEntryFields head e) t1 t2
    → Becomes t2 (λ p1. SameOutside (fields_span h.place ∷ []) pages p1
    × CanRelease (lob_pages (with_pieces l (bs ++ piece h (x ∷ more) ∷ cs))) (with_pieces l (bs ++ popped (piece h (x ∷ more)) ∷ cs)) head node [] (map place_of more) page p1)
pop_ready t1 t2 pages l bs h x more cs e head node page told is map' used same same' same'' read wrote =
    let p = piece h (x ∷ more) in
    let lob = with_pieces l (bs ++ p ∷ cs) in
    let lob' = with_pieces l (bs ++ popped p ∷ cs) in
    let W : Address → Type 0 = λ a. Told (SetsEntryFields a e) t1 t2 in
    let b = told_step (SetsEntryFields h.place e) t1 t2 pages told (subst W (sym same) wrote) in
    let version = version_in pages lob bs p cs is refl (h ∷ []) x more refl in
    let here = fields_of pages b.0 x h.place e read version.entry b.2.here in
    let can = pop_can pages l bs h x more cs is b.0 map' used b.2.outside here in
    let A : Address → Type 0 = λ a. CanRelease (lob_pages lob) lob' a x.place [] (map place_of more) h.page b.0 in
    let N : Address → Type 0 = λ a. CanRelease (lob_pages lob) lob' head a [] (map place_of more) h.page b.0 in
    let K : ℕ → Type 0 = λ k. CanRelease (lob_pages lob) lob' head node [] (map place_of more) k b.0 in
    (b.0, b.1, (b.2.outside, subst K (sym same'') (subst N (sym same') (subst A same can))))

-- ---- dropped

append_nil : (ns : List Address) → ns ++ [] ≡ ns
append_nil [] = refl
append_nil (n ∷ ns) = ap (λ (ms : List Address). n ∷ ms) (append_nil ns)

cut_last : (xs : List Version) (x : Version) → all_but_last (xs ++ x ∷ []) ≡ xs
cut_last [] x = refl
cut_last (y ∷ []) x = refl
cut_last (y ∷ z ∷ zs) x = ap (λ ws. y ∷ ws) (cut_last (z ∷ zs) x)

module _ (pages : Pages) (l : Lob) (bs : List Piece) (h : Version) (ys : List Version) (x : Version) (cs : List Piece) (is : IsLob pages (with_pieces l (bs ++ piece h (ys ++ x ∷ []) ∷ cs))) where
  dropping : (mid : Pages) → ChangesList (versions_base h.place) (map place_of ys ++ x.place ∷ []) (map place_of ys ++ []) pages mid → Dropping pages mid l bs h ys x cs
  dropping mid changes =
      let S : List Address → Type 0 = λ ns. SameOutside (list_spans (versions_base h.place) ns) pages mid in
      let L : List Address → Type 0 = λ ns. IsList mid (versions_base h.place) ns in record {
        lob = is;
        outside = subst S (sym (places_cut ys (x ∷ []))) changes.outside;
        list = subst L (append_nil (map place_of ys)) changes.list;
      }

  -- the node may be given up
  pub drop_can : IsMap pages → AreUsed pages (lob_pages (with_pieces l (bs ++ piece h (ys ++ x ∷ []) ∷ cs)))
      → CanRelease (lob_pages (with_pieces l (bs ++ piece h (ys ++ x ∷ []) ∷ cs))) (with_pieces l (bs ++ piece h ys ∷ cs)) h.place x.place (map place_of ys) [] x.page pages
  drop_can map' used =
      let p = piece h (ys ++ x ∷ []) in
      let L : List Address → Type 0 = λ ns. IsList pages (versions_base h.place) ns in record {
        list = subst L (places_cut ys (x ∷ [])) (list_in pages (with_pieces l (bs ++ p ∷ cs)) bs p cs is refl);
        loosens = λ mid changes. let d = dropping mid changes in (dropped_stands pages mid l bs h ys x cs d, list_in_pages pages l bs h (ys ++ x ∷ []) cs is pages mid d.outside);
        map' = map';
        used = used;
        cut = λ n. pages_cut n l bs p (piece h ys) cs (data_given l.page x.page)
            (let a = data_split n l.page (h ∷ ys) (x ∷ []) in let b = data_one n l.page x [] in omega (arith, a, b));
      }

  -- and then the version is dropped
  pub drop_loses : (new : Pages) → Releases (lob_pages (with_pieces l (bs ++ piece h (ys ++ x ∷ []) ∷ cs))) (with_pieces l (bs ++ piece h ys ∷ cs)) x.place x.page pages new
      → LosesVersion l bs (piece h (ys ++ x ∷ [])) (dropped (piece h (ys ++ x ∷ []))) cs x.place x.page pages new
  drop_loses new r =
      let P : List Version → Type 0 = λ vs. LosesVersion l bs (piece h (ys ++ x ∷ [])) (piece h vs) cs x.place x.page pages new in
      subst P (sym (cut_last ys x)) (record { lob' = r.lob'; gives = r.gives; outside = r.outside; keeps = r.keeps })

-- the node may be given up, as the code names it
pub drop_ready : (pages : Pages) (l : Lob) (bs : List Piece) (h : Version) (ys : List Version) (x : Version) (cs : List Piece) (head node : Address) (page : ℕ)
    → IsLob pages (with_pieces l (bs ++ piece h (ys ++ x ∷ []) ∷ cs)) → IsMap pages → AreUsed pages (lob_pages (with_pieces l (bs ++ piece h (ys ++ x ∷ []) ∷ cs)))
    → h.place ≡ head → node ≡ x.place → page ≡ x.page
    → CanRelease (lob_pages (with_pieces l (bs ++ piece h (ys ++ x ∷ []) ∷ cs))) (with_pieces l (bs ++ piece h ys ∷ cs)) head node (map place_of ys) [] page pages
drop_ready pages l bs h ys x cs head node page is map' used same same' same'' =
    let lob = with_pieces l (bs ++ piece h (ys ++ x ∷ []) ∷ cs) in
    let lob' = with_pieces l (bs ++ piece h ys ∷ cs) in
    let can = drop_can pages l bs h ys x cs is map' used in
    let A : Address → Type 0 = λ a. CanRelease (lob_pages lob) lob' a x.place (map place_of ys) [] x.page pages in
    let N : Address → Type 0 = λ a. CanRelease (lob_pages lob) lob' head a (map place_of ys) [] x.page pages in
    let K : ℕ → Type 0 = λ k. CanRelease (lob_pages lob) lob' head node (map place_of ys) [] k pages in
    subst K (sym same'') (subst N (sym same') (subst A same can))

-- ---- pages and room

abbrev all : ℕ → ℕ → ℕ → List ℕ
all q a f = q ∷ a ∷ f ∷ 0 ∷ []

-- what is read first
pub may_read : (a f b : ℕ) (s : PageState) → MayUse (a ∷ f ∷ 0 ∷ []) 3 b s → MayUse (a ∷ []) 1 0 s
may_read a f b s may = may_less (a ∷ f ∷ 0 ∷ []) (a ∷ []) 3 1 b 0 s may (within_left (a ∷ []) (f ∷ 0 ∷ [])) (lit≤ tt) (omega arith)

module _ {T : Type 0} {state : T → PageState} {stays : T → T → Type 0} (add : (a b c : T) → stays a b → stays b c → stays a c) (q a f : ℕ) (s t : T) where
  n1 : Uses state stays (q ∷ a ∷ []) 0 0 s t → Uses state stays (all q a f) 0 0 s t
  n1 u1 = uses_more (q ∷ a ∷ []) (all q a f) 0 0 0 0 s t u1 (within_left (q ∷ a ∷ []) (f ∷ 0 ∷ [])) (lit≤ tt) (lit≤ tt)

  n2 : (v : T) → Uses state stays (q ∷ a ∷ []) 0 0 s t → Uses state stays (a ∷ []) 0 40 t v → Uses state stays (all q a f) 0 40 s v
  n2 v u1 u2 = uses_within add (all q a f) (a ∷ []) 0 0 0 40 s t v (within_two q a (f ∷ 0 ∷ [])) (n1 u1) u2

  -- the fields may be written
  pub may_write : MayUse (a ∷ f ∷ 0 ∷ []) 3 169 (state s) → Uses state stays (q ∷ a ∷ []) 0 0 s t → MayUse (a ∷ []) 0 40 (state t)
  may_write may u1 = may_within (all q a f) (a ∷ []) 2 169 0 0 0 40 s t (within_two q a (f ∷ 0 ∷ [])) (lit≤ tt) (lit≤ tt) (may_name q (a ∷ f ∷ 0 ∷ []) 2 169 (state s) may) (n1 u1)

  -- and then the node be given up
  pub may_give_up : (v : T) → MayUse (a ∷ f ∷ 0 ∷ []) 3 169 (state s) → Uses state stays (q ∷ a ∷ []) 0 0 s t → Uses state stays (a ∷ []) 0 40 t v → MayUse (q ∷ a ∷ f ∷ 0 ∷ []) 2 129 (state v)
  may_give_up v may u1 u2 = may_within (all q a f) (all q a f) 2 169 0 40 2 129 s v (λ n is. is) (lit≤ tt) (lit≤ tt) (may_name q (a ∷ f ∷ 0 ∷ []) 2 169 (state s) may) (n2 v u1 u2)

  -- what was used behind the fields, and in all
  pub used_write : (v : T) → Uses state stays (q ∷ a ∷ []) 0 0 s t → Uses state stays (a ∷ []) 0 40 t v → Uses state stays (a ∷ f ∷ 0 ∷ []) 3 169 s v
  used_write v u1 u2 = uses_at_most (a ∷ f ∷ 0 ∷ []) 1 40 3 169 s v (lit≤ tt) (lit≤ tt) (uses_unnamed q (a ∷ f ∷ 0 ∷ []) 0 40 s v (n2 v u1 u2))

  pub used_pop : (v w : T) → Uses state stays (q ∷ a ∷ []) 0 0 s t → Uses state stays (a ∷ []) 0 40 t v → Uses state stays (q ∷ a ∷ f ∷ 0 ∷ []) 2 129 v w → Uses state stays (a ∷ f ∷ 0 ∷ []) 3 169 s w
  used_pop v w u1 u2 u3 = uses_unnamed q (a ∷ f ∷ 0 ∷ []) 2 169 s w (uses_within add (all q a f) (all q a f) 0 40 2 129 s v w (λ n is. is) (n2 v u1 u2) u3)

  -- the node be given up where no field is written
  pub may_drop : MayUse (a ∷ f ∷ 0 ∷ []) 3 129 (state s) → Uses state stays (q ∷ a ∷ []) 0 0 s t → MayUse (q ∷ a ∷ f ∷ 0 ∷ []) 2 129 (state t)
  may_drop may u1 = may_within (all q a f) (all q a f) 2 129 0 0 2 129 s t (λ n is. is) (lit≤ tt) (lit≤ tt) (may_name q (a ∷ f ∷ 0 ∷ []) 2 129 (state s) may) (n1 u1)

  pub used_drop : (w : T) → Uses state stays (q ∷ a ∷ []) 0 0 s t → Uses state stays (q ∷ a ∷ f ∷ 0 ∷ []) 2 129 t w → Uses state stays (a ∷ f ∷ 0 ∷ []) 3 129 s w
  used_drop w u1 u3 = uses_unnamed q (a ∷ f ∷ 0 ∷ []) 2 129 s w (uses_within add (all q a f) (all q a f) 0 0 2 129 s t w (λ n is. is) (n1 u1) u3)

-- what was read alone
pub used_read : {T : Type 0} {state : T → PageState} {stays : T → T → Type 0} (a f b : ℕ) (s t : T) → Uses state stays (a ∷ []) 1 0 s t → Uses state stays (a ∷ f ∷ 0 ∷ []) 3 b s t
used_read a f b s t u1 = uses_more (a ∷ []) (a ∷ f ∷ 0 ∷ []) 1 3 0 b s t u1 (within_left (a ∷ []) (f ∷ 0 ∷ [])) (lit≤ tt) (omega arith)

-- ---- faults

-- a fault of giving up the node is one of the call
pub odd_giving : (P : Oddity) (end : End) (first : ℕ) (head node : Address) (k : ℕ) (s t : PageState) → t.count ≡ s.count → (f : Fault) → IsHonest (IsOddRelease end first head node k t) f
    → IsHonest (λ page at value. P page at value ⊎ IsMeanwhile (IsOddGivingUp end first head) s page at value) f
odd_giving P end first head node k s t same Device odd = tt
odd_giving P end first head node k s t same (Strange page at value) odd = inr (record { mid = t; same = same; there = (node, k, odd) })

-- no oldest version is one
pub none_oldest : {A : Type 0} (o : Oldest) → None ≡ Some o → A
none_oldest o e = absurd (subst IsNo e tt)
  where
    IsNo : Option Oldest → Type 0
    IsNo None = Unit {0}
    IsNo (Some c) = ⊥
