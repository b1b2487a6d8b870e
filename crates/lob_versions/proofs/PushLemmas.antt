-- A version pushed, with a node and a page in hand, call by call.
use Rattle.std.proofs.Common.{◌≡◌, inl, inr, ℕ, ◌+◌, ◌<◌, ◌≤◌, List, [], ◌∷◌, ◌++◌, length, map, Option, Some, sym, ap, ◌∙◌, subst, lit≤, arith}
use Rattle.std.proofs.lemmas.List.{length-append}
use Rattle.page_model.specs.Pages.{Pages, Address, address_at, bytes_at}
use Rattle.page_model.specs.Spans.{IsApartFromAll, AreApart, SameOutside}
use Rattle.page_model.specs.Lists.{IsList, list_spans, node_span, base_span}
use Rattle.page_model.specs.Counts.{has, covers}
use Rattle.page_model.proofs.CoverLemmas.{covers_cons, covers_nil, covers_append, covers_once, map_covers, map_wide, from_all_by, across_by}
use Rattle.page_model.proofs.FrameLemmas.{outside_then, outside_wider}
use Rattle.page_model.proofs.ListLemmas.{list_kept}
use Rattle.page_model.specs.Steps.{PageState, IsWithin, MayUse, Uses, Told, Becomes}
use Rattle.page_model.proofs.StepLemmas.{may_within, uses_more, uses_within, uses_at_most, within_one, within_two, within_left, within_right, told_step}
use Rattle.file_lists.specs.Changes.{ChangesList}
use Rattle.store_data.specs.Store.{Version, Piece, Lob}
use Rattle.lob_model.specs.Pieces.{versions, piece_versions, place_of}
use Rattle.lob_model.specs.Places.{versions_base, entry_span, whole_page}
use Rattle.lob_model.specs.Lobs.{IsEntryOf, HasData, IsVersion, AreVersions, IsLobBut, IsShaped, lob_parts, lob_spans}
use Rattle.lob_model.specs.Changes.{with_pieces, fields_span, push_spans, Pushing}
use Rattle.lob_model.proofs.CoverLemmas.{nodes_covered}
use Rattle.lob_model.proofs.PartLemmas.{data_elsewhere, data_kept}
use Rattle.lob_model.proofs.FreeLemmas.{parts_covers}
use Rattle.lob_model.proofs.NodeLemmas.{within_pages}
use Rattle.lob_model.proofs.SplitLemmas.{versions_cut, are_split, lists_split}
use Rattle.lob_model.proofs.CutLemmas.{entries_cut, long_cut, node_tail, base_fields, fields_wide}
use Rattle.lob_model.proofs.PushLemmas.{fresh_other, pushed_stands}
use Rattle.lob_model.proofs.RefillLemmas.{fresh_changed, loose_changed}
use Rattle.lob_pages.specs.declared.entry.Entry.{Entry}
use Rattle.lob_pages.specs.Entries.{HasEntryFields, IsEntryAt, SetsEntry, SetsEntryFields}
use Rattle.lob_index.specs.Data.{MakesData}
use Rattle.lob_versions.specs.Pushes.{new_version, IsBareCopy, IsReady, PushesAt}
use Rattle.lob_index.proofs.OwnLemmas.{off_join}

-- ---- the LOB but for the node

module _ (pages : Pages) (l : Lob) (bs : List Piece) (p : Piece) (cs : List Piece) (node : Address) (is : IsLobBut pages (with_pieces l (bs ++ p ∷ cs)) (node ∷ [])) where
  -- the version list of the head
  pub own_list : IsList pages (versions_base p.head.place) (map place_of p.older)
  own_list = (lists_split pages bs (p ∷ cs) is.lists).1.0

  -- its newest version
  own_head : IsVersion pages l.page p.head
  own_head =
      let A : List Version → Type 0 = λ vs. AreVersions pages l.page vs in
      let all = are_split pages l.page (versions bs) (piece_versions p ++ versions cs) (subst A (versions_cut bs p cs) is.versions) in
      (are_split pages l.page (piece_versions p) (versions cs) all.1).0.0

-- what is written lies in the LOB, and the node, the list and the fields have no byte in common
module _ (l : Lob) (bs : List Piece) (p : Piece) (cs : List Piece) (node : Address) where
  inside : (n k : ℕ) → covers (list_spans (versions_base p.head.place) (map place_of p.older)) n k + has (fields_span p.head.place) n k + has (entry_span node) n k
      ≤ covers (lob_parts (with_pieces l (bs ++ p ∷ cs)) (node ∷ [])) n k
  inside n k =
      omega (
        arith,
        parts_covers (with_pieces l (bs ++ p ∷ cs)) (node ∷ []) n k,
        entries_cut bs p cs n k,
        map_covers entry_span l.free (node ∷ []) n k,
        covers_cons (entry_span node) [] n k,
        covers_nil n k,
        covers_cons (base_span (versions_base p.head.place)) (map node_span (map place_of p.older)) n k,
        base_fields p.head.place n k,
        node_tail p.head.place n k,
        nodes_covered (map place_of p.older) n k,
      )

  with_node : (n k : ℕ) → covers (list_spans (versions_base p.head.place) (node ∷ map place_of p.older)) n k + has (fields_span p.head.place) n k
      ≤ covers (lob_parts (with_pieces l (bs ++ p ∷ cs)) (node ∷ [])) n k
  with_node n k =
      omega (
        arith,
        inside n k,
        node_tail node n k,
        covers_cons (base_span (versions_base p.head.place)) (map node_span (map place_of p.older)) n k,
        covers_cons (base_span (versions_base p.head.place)) (map node_span (node ∷ map place_of p.older)) n k,
        covers_cons (node_span node) (map node_span (map place_of p.older)) n k,
      )

module _ (l : Lob) (bs : List Piece) (p : Piece) (cs : List Piece) (node : Address) (shape : IsShaped (with_pieces l (bs ++ p ∷ cs)) (node ∷ [])) where
  once : (n k : ℕ) → covers (lob_parts (with_pieces l (bs ++ p ∷ cs)) (node ∷ [])) n k ≤ 1
  once = covers_once (lob_parts (with_pieces l (bs ++ p ∷ cs)) (node ∷ [])) shape.apart

  -- the node isn't in the list
  pub node_far : IsApartFromAll (list_spans (versions_base p.head.place) (map place_of p.older)) (node_span node)
  node_far = from_all_by (list_spans (versions_base p.head.place) (map place_of p.older)) (node_span node) (lit≤ tt, map_wide node_span (map place_of p.older) (λ a. lit≤ tt)) (lit≤ tt)
      (λ n k. omega (arith, inside l bs p cs node n k, once n k, node_tail node n k))

  list_far : AreApart (fields_span p.head.place ∷ []) (list_spans (versions_base p.head.place) (node ∷ map place_of p.older))
  list_far = across_by (fields_span p.head.place ∷ []) (list_spans (versions_base p.head.place) (node ∷ map place_of p.older)) (fields_wide p.head.place, tt)
      (lit≤ tt, map_wide node_span (node ∷ map place_of p.older) (λ a. lit≤ tt))
      (λ n k. omega (arith, with_node l bs p cs node n k, once n k, covers_cons (fields_span p.head.place) [] n k, covers_nil n k))

  -- the node's entry lies in the LOB's pages
  entry_in_pages : (a b : Pages) → SameOutside (entry_span node ∷ []) a b → SameOutside (lob_spans (with_pieces l (bs ++ p ∷ cs))) a b
  entry_in_pages a b same = within_pages (entry_span node ∷ []) a b (with_pieces l (bs ++ p ∷ cs)) (node ∷ []) shape
      (λ n k. omega (arith, inside l bs p cs node n k, covers_cons (entry_span node) [] n k, covers_nil n k)) same

  -- so do the list and the fields
  push_in_pages : (a b : Pages) → SameOutside (push_spans p node) a b → SameOutside (lob_spans (with_pieces l (bs ++ p ∷ cs))) a b
  push_in_pages a b same = within_pages (push_spans p node) a b (with_pieces l (bs ++ p ∷ cs)) (node ∷ []) shape
      (λ n k. omega (arith, with_node l bs p cs node n k, covers_append (list_spans (versions_base p.head.place) (node ∷ map place_of p.older)) (fields_span p.head.place ∷ []) n k, covers_cons (fields_span p.head.place) [] n k, covers_nil n k)) same

  -- fewer than 2 ^ 32 older versions
  pub few_older : length l.index ≤ 32_768 → length (map place_of p.older) + 1 < 4_294_967_296
  few_older few = elim shape.all [
    | inl all ↦ omega (arith, all, few, length-append (map place_of (versions (bs ++ p ∷ cs))) (l.free ++ node ∷ []), long_cut bs p cs)
    | inr none ↦ omega (arith, none, length-append (map place_of (versions (bs ++ p ∷ cs))) (l.free ++ node ∷ []), long_cut bs p cs)
  ]

-- ---- fields

-- the fields that were read and are written again
copied : (pages new : Pages) (x : Version) (a b : Address) (e copy : Entry) → IsEntryAt pages a e → IsEntryOf pages a x → IsBareCopy e copy → HasEntryFields new b copy → IsEntryOf new b x
copied pages new x a b e copy read is bare wrote = record {
  creator = wrote.creator ∙ bare.creator ∙ sym read.fields.creator ∙ is.creator;
  modifier = wrote.modifier ∙ bare.modifier ∙ sym read.fields.modifier ∙ is.modifier;
  creator_undo = wrote.creator_undo ∙ bare.creator_undo ∙ sym read.fields.creator_undo ∙ is.creator_undo;
  modifier_undo = wrote.modifier_undo ∙ bare.modifier_undo ∙ sym read.fields.modifier_undo ∙ is.modifier_undo;
  page = wrote.page ∙ bare.page ∙ sym read.fields.page ∙ is.page;
  long = wrote.long ∙ bare.long ∙ sym read.fields.long ∙ is.long;
  number = wrote.number ∙ bare.number ∙ sym read.fields.number ∙ is.number;
}

-- an entry without versions of its own
bare_list : (pages : Pages) (a : Address) (e copy : Entry) → IsBareCopy e copy → IsEntryAt pages a copy → IsList pages (versions_base a) []
bare_list pages a e copy bare is = record {
  count = is.links.count ∙ bare.count;
  first = ap (λ (k : ℕ). address_at pages a.page k) (let e : a.at + 12 + 4 ≡ a.at + 16 = omega arith in e) ∙ is.links.first ∙ bare.first;
  last = ap (λ (k : ℕ). address_at pages a.page k) (let e : a.at + 12 + 10 ≡ a.at + 22 = omega arith in e) ∙ is.links.last ∙ bare.last;
  walk = tt;
  apart = (tt, tt);
}

-- ---- the pages, call by call

module _ (pages : Pages) (l : Lob) (bs : List Piece) (p : Piece) (cs : List Piece) (node : Address) (page v trx : ℕ) (bytes : List ℕ) (ready : IsReady pages l bs p cs node page v bytes) where
  other : page ≡ l.page → ⊥
  other = fresh_other (with_pieces l (bs ++ p ∷ cs)) page ready.fresh

  -- behind the writing of the data and of the node's entry
  pub record Written (p2 : Pages) : Type 0 where
    pub but : IsLobBut p2 (with_pieces l (bs ++ p ∷ cs)) (node ∷ [])
    pub copy : IsEntryOf p2 node p.head
    pub bare : IsList p2 (versions_base node) []
    pub has : HasData p2 l.page (new_version p.head.place page v trx bytes)
    pub outside : SameOutside (whole_page page ∷ lob_spans (with_pieces l (bs ++ p ∷ cs))) pages p2

  pub written_both : (p1 p2 : Pages) (e copy : Entry) → length bytes ≤ 16_327 → IsEntryAt pages p.head.place e → IsBareCopy e copy → MakesData page trx bytes pages p1 → SetsEntry node copy p1 p2 → Written p2
  written_both p1 p2 e copy short read bare data' set =
      let lob' = with_pieces l (bs ++ p ∷ cs) in
      let x' = new_version p.head.place page v trx bytes in
      let else' = data_elsewhere l.page x' other in
      let but1 = fresh_changed pages p1 lob' (node ∷ []) page ready.lob' ready.fresh data'.outside in
      let in2 = entry_in_pages l bs p cs node ready.lob'.shape p1 p2 set.outside in
      let has1 : HasData p1 l.page x' = record {
        place = sym else'.0;
        fits = omega (arith, else'.1, short);
        bytes = ap (λ (k : ℕ). bytes_at p1 page k (length bytes)) else'.0 ∙ data'.bytes';
        type' = inr data'.here;
      } in record {
        but = loose_changed p1 p2 lob' node but1 set.outside;
        copy = copied pages p2 p.head p.head.place node e copy read (own_head pages l bs p cs node ready.lob').entry bare set.here.fields;
        bare = bare_list p2 node e copy bare set.here;
        has = data_kept (lob_spans lob') p1 p2 l.page x' in2 (subst (IsApartFromAll (lob_spans lob')) (sym else'.2) ready.fresh) has1;
        outside = outside_then (whole_page page ∷ []) (lob_spans lob') pages p1 p2 data'.outside in2;
      }

  -- and then the version is pushed
  pub pushes : (p2 p3 p4 : Pages) → Written p2 → ChangesList (versions_base p.head.place) (node ∷ map place_of p.older) (node ∷ map place_of p.older) p2 p3
      → SameOutside (fields_span p.head.place ∷ []) p3 p4 → IsEntryOf p4 p.head.place (new_version p.head.place page v trx bytes) → PushesAt l bs p cs node (new_version p.head.place page v trx bytes) pages p4
  pushes p2 p3 p4 w changes same here =
      let lob' = with_pieces l (bs ++ p ∷ cs) in
      let x' = new_version p.head.place page v trx bytes in
      let lists = list_spans (versions_base p.head.place) (node ∷ map place_of p.older) in
      let fields = fields_span p.head.place ∷ [] in
      let out : SameOutside (push_spans p node) p2 p4 = outside_then lists fields p2 p3 p4 changes.outside same in
      let pushing : Pushing p2 p4 l bs p cs x' node = record {
        lob = w.but;
        copy = w.copy;
        bare = w.bare;
        «data» = w.has;
        fresh = ready.fresh;
        newer = ready.newer;
        known = ready.known;
        long = ready.long;
        outside = out;
        list = list_kept fields p3 p4 (versions_base p.head.place) (node ∷ map place_of p.older) same (list_far l bs p cs node w.but.shape) changes.list;
        here = here;
      } in
      let all = whole_page page ∷ lob_spans lob' in record {
        lob' = pushed_stands p2 p4 l bs p cs x' node pushing;
        outside = outside_wider (all ++ lob_spans lob') all pages p4 (λ n k off. off_join all (lob_spans lob') n k off off.1)
            (outside_then all (lob_spans lob') pages p2 p4 w.outside (push_in_pages l bs p cs node w.but.shape p2 p4 out));
      }

-- behind the two writes, as the code names the head
pub push_ready : (t1 t2 t3 : Option Pages) (pages : Pages) (l : Lob) (bs : List Piece) (p : Piece) (cs : List Piece) (head node : Address) (page v trx : ℕ) (bytes : List ℕ) (e copy : Entry) → t1 ≡ Some pages → p.head.place ≡ head
    → (ready : IsReady pages l bs p cs node page v bytes) → length bytes ≤ 16_327 → IsEntryAt pages head e → IsBareCopy e copy → Told (MakesData page trx bytes) t1 t2 → Told (SetsEntry node copy) t2 t3
    → Becomes t3 (λ p2. Written pages l bs p cs node page v trx bytes ready p2 × IsList p2 (versions_base head) (map place_of p.older) × IsApartFromAll (list_spans (versions_base head) (map place_of p.older)) (node_span node))
push_ready t1 t2 t3 pages l bs p cs head node page v trx bytes e copy told same ready short read bare wrote set =
    let b1 = told_step (MakesData page trx bytes) t1 t2 pages told wrote in
    let b2 = told_step (SetsEntry node copy) t2 t3 b1.0 b1.1 set in
    let R : Address → Type 0 = λ a. IsEntryAt pages a e in
    let w = written_both pages l bs p cs node page v trx bytes ready b1.0 b2.0 e copy short (subst R (sym same) read) bare b1.2 b2.2 in
    let L : Address → Type 0 = λ a. IsList b2.0 (versions_base a) (map place_of p.older) in
    let F : Address → Type 0 = λ a. IsApartFromAll (list_spans (versions_base a) (map place_of p.older)) (node_span node) in
    (b2.0, b2.1, (w, subst L same (own_list b2.0 l bs p cs node w.but), subst F same (node_far l bs p cs node w.but.shape)))

-- behind the other two
pub push_done : (t4 t5 : Option Pages) (pages : Pages) (l : Lob) (bs : List Piece) (p : Piece) (cs : List Piece) (head node : Address) (page v trx : ℕ) (bytes : List ℕ) (fields : Entry) (p2 : Pages) → p.head.place ≡ head
    → (ready : IsReady pages l bs p cs node page v bytes) → Written pages l bs p cs node page v trx bytes ready p2
    → Becomes t4 (λ p3. ChangesList (versions_base head) (node ∷ map place_of p.older) (node ∷ map place_of p.older) p2 p3) → Told (SetsEntryFields head fields) t4 t5
    → ((p4 : Pages) → HasEntryFields p4 head fields → IsEntryOf p4 head (new_version head page v trx bytes))
    → Becomes t5 (PushesAt l bs p cs node (new_version head page v trx bytes) pages)
push_done t4 t5 pages l bs p cs head node page v trx bytes fields p2 same ready w added set here =
    let b = told_step (SetsEntryFields head fields) t4 t5 added.0 added.1 set in
    let C : Address → Type 0 = λ a. ChangesList (versions_base a) (node ∷ map place_of p.older) (node ∷ map place_of p.older) p2 added.0 in
    let O : Address → Type 0 = λ a. SameOutside (fields_span a ∷ []) added.0 b.0 in
    let H : Address → Type 0 = λ a. IsEntryOf b.0 a (new_version a page v trx bytes) in
    let P : Address → Type 0 = λ a. PushesAt l bs p cs node (new_version a page v trx bytes) pages b.0 in
    (b.0, b.1, subst P same (pushes pages l bs p cs node page v trx bytes ready p2 added.0 b.0 w (subst C (sym same) added.2) (subst O (sym same) b.2.outside) (subst H (sym same) (here b.0 b.2.here))))

-- ---- pages and room

abbrev three : ℕ → ℕ → ℕ → List ℕ
three q a d = q ∷ a ∷ d ∷ []

one_of : (q a d : ℕ) → IsWithin (q ∷ []) (three q a d)
one_of q a d = within_one q (a ∷ d ∷ [])

head_of : (q a d : ℕ) → IsWithin (a ∷ []) (three q a d)
head_of q a d = within_two q a (d ∷ [])

page_of : (q a d : ℕ) → IsWithin (d ∷ []) (three q a d)
page_of q a d = within_right (q ∷ a ∷ []) (d ∷ [])

both_of : (q a d : ℕ) → IsWithin (q ∷ a ∷ []) (three q a d)
both_of q a d = within_left (q ∷ a ∷ []) (d ∷ [])

module _ {T : Type 0} {state : T → PageState} {stays : T → T → Type 0} (add : (a b c : T) → stays a b → stays b c → stays a c) (q a d n : ℕ) (s t1 t2 t3 t4 t5 : T) where
  m1 : Uses state stays (a ∷ []) 0 0 s t1 → Uses state stays (three q a d) 0 0 s t1
  m1 u1 = uses_more (a ∷ []) (three q a d) 0 0 0 0 s t1 u1 (head_of q a d) (lit≤ tt) (lit≤ tt)

  m2 : Uses state stays (a ∷ []) 0 0 s t1 → Uses state stays (d ∷ []) 0 (49 + n + 16) t1 t2 → Uses state stays (three q a d) 0 (49 + n + 16) s t2
  m2 u1 u2 = uses_at_most (three q a d) (0 + 0) (0 + (49 + n + 16)) 0 (49 + n + 16) s t2 (omega arith) (omega arith) (uses_within add (three q a d) (d ∷ []) 0 0 0 (49 + n + 16) s t1 t2 (page_of q a d) (m1 u1) u2)

  m3 : Uses state stays (a ∷ []) 0 0 s t1 → Uses state stays (d ∷ []) 0 (49 + n + 16) t1 t2 → Uses state stays (q ∷ []) 0 68 t2 t3 → Uses state stays (three q a d) 0 (49 + n + 16 + 68) s t3
  m3 u1 u2 u3 = uses_within add (three q a d) (q ∷ []) 0 (49 + n + 16) 0 68 s t2 t3 (one_of q a d) (m2 u1 u2) u3

  m4 : Uses state stays (a ∷ []) 0 0 s t1 → Uses state stays (d ∷ []) 0 (49 + n + 16) t1 t2 → Uses state stays (q ∷ []) 0 68 t2 t3 → Uses state stays (q ∷ a ∷ []) 1 68 t3 t4 → Uses state stays (three q a d) 1 (49 + n + 16 + 68 + 68) s t4
  m4 u1 u2 u3 u4 = uses_within add (three q a d) (q ∷ a ∷ []) 0 (49 + n + 16 + 68) 1 68 s t3 t4 (both_of q a d) (m3 u1 u2 u3) u4

  -- each call may be made
  pub may_data : MayUse (q ∷ a ∷ d ∷ []) 1 (169 + n + 72) (state s) → Uses state stays (a ∷ []) 0 0 s t1 → MayUse (d ∷ []) 0 (49 + n + 16) (state t1)
  may_data may u1 = may_within (three q a d) (d ∷ []) 1 (169 + n + 72) 0 0 0 (49 + n + 16) s t1 (page_of q a d) (lit≤ tt) (omega arith) may (m1 u1)

  pub may_entry : MayUse (q ∷ a ∷ d ∷ []) 1 (169 + n + 72) (state s) → Uses state stays (a ∷ []) 0 0 s t1 → Uses state stays (d ∷ []) 0 (49 + n + 16) t1 t2 → MayUse (q ∷ []) 0 68 (state t2)
  may_entry may u1 u2 = may_within (three q a d) (q ∷ []) 1 (169 + n + 72) 0 (49 + n + 16) 0 68 s t2 (one_of q a d) (lit≤ tt) (omega arith) may (m2 u1 u2)

  pub may_add : MayUse (q ∷ a ∷ d ∷ []) 1 (169 + n + 72) (state s) → Uses state stays (a ∷ []) 0 0 s t1 → Uses state stays (d ∷ []) 0 (49 + n + 16) t1 t2 → Uses state stays (q ∷ []) 0 68 t2 t3 → MayUse (q ∷ a ∷ []) 1 68 (state t3)
  may_add may u1 u2 u3 = may_within (three q a d) (q ∷ a ∷ []) 1 (169 + n + 72) 0 (49 + n + 16 + 68) 1 68 s t3 (both_of q a d) (lit≤ tt) (omega arith) may (m3 u1 u2 u3)

  pub may_fields : MayUse (q ∷ a ∷ d ∷ []) 1 (169 + n + 72) (state s) → Uses state stays (a ∷ []) 0 0 s t1 → Uses state stays (d ∷ []) 0 (49 + n + 16) t1 t2 → Uses state stays (q ∷ []) 0 68 t2 t3 → Uses state stays (q ∷ a ∷ []) 1 68 t3 t4
      → MayUse (a ∷ []) 0 40 (state t4)
  may_fields may u1 u2 u3 u4 = may_within (three q a d) (a ∷ []) 1 (169 + n + 72) 1 (49 + n + 16 + 68 + 68) 0 40 s t4 (head_of q a d) (lit≤ tt) (omega arith) may (m4 u1 u2 u3 u4)

  out : (k b : ℕ) (t : T) → k ≤ 1 → b ≤ 169 + n + 72 → Uses state stays (three q a d) k b s t → Uses state stays (q ∷ a ∷ d ∷ []) 1 (169 + n + 72) s t
  out k b t few short u = uses_at_most (three q a d) k b 1 (169 + n + 72) s t few short u

  -- what was used behind each of them
  pub used_data : Uses state stays (a ∷ []) 0 0 s t1 → Uses state stays (d ∷ []) 0 (49 + n + 16) t1 t2 → Uses state stays (q ∷ a ∷ d ∷ []) 1 (169 + n + 72) s t2
  used_data u1 u2 = out 0 (49 + n + 16) t2 (lit≤ tt) (omega arith) (m2 u1 u2)

  pub used_entry : Uses state stays (a ∷ []) 0 0 s t1 → Uses state stays (d ∷ []) 0 (49 + n + 16) t1 t2 → Uses state stays (q ∷ []) 0 68 t2 t3 → Uses state stays (q ∷ a ∷ d ∷ []) 1 (169 + n + 72) s t3
  used_entry u1 u2 u3 = out 0 (49 + n + 16 + 68) t3 (lit≤ tt) (omega arith) (m3 u1 u2 u3)

  pub used_add : Uses state stays (a ∷ []) 0 0 s t1 → Uses state stays (d ∷ []) 0 (49 + n + 16) t1 t2 → Uses state stays (q ∷ []) 0 68 t2 t3 → Uses state stays (q ∷ a ∷ []) 1 68 t3 t4 → Uses state stays (q ∷ a ∷ d ∷ []) 1 (169 + n + 72) s t4
  used_add u1 u2 u3 u4 = out 1 (49 + n + 16 + 68 + 68) t4 (lit≤ tt) (omega arith) (m4 u1 u2 u3 u4)

  pub used_fields : Uses state stays (a ∷ []) 0 0 s t1 → Uses state stays (d ∷ []) 0 (49 + n + 16) t1 t2 → Uses state stays (q ∷ []) 0 68 t2 t3 → Uses state stays (q ∷ a ∷ []) 1 68 t3 t4 → Uses state stays (a ∷ []) 0 40 t4 t5
      → Uses state stays (q ∷ a ∷ d ∷ []) 1 (169 + n + 72) s t5
  used_fields u1 u2 u3 u4 u5 = out 1 (49 + n + 16 + 68 + 68 + 40) t5 (lit≤ tt) (omega arith) (uses_within add (three q a d) (a ∷ []) 1 (49 + n + 16 + 68 + 68) 0 40 s t4 t5 (head_of q a d) (m4 u1 u2 u3 u4) u5)
