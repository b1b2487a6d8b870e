-- A row page given back.
use Rattle.std.proofs.Common.{◌≡◌, ◌⊎◌, inl, inr, ℕ, ◌+◌, ◌*◌, ◌<◌, ◌≤◌, ◌%◌, ◌==◌, nat_eq, cond, List, [], ◌∷◌, ◌++◌, length, map, take, Option, Some, None, refl, sym, ap, ap₂, subst, lit≤, ◌∙◌, arith}
use Rattle.std.specs.Int.{bit_at}
use Rattle.std.specs.Option.{option_map}
use Rattle.std.specs.Map.{keys_of, lookup}
use Rattle.std.specs.List.{IsDistinct}
use Rattle.std.proofs.lemmas.List.{length-append, append-nil, nil_from_length}
use Rattle.std.proofs.lemmas.Bool.{cases_eq, eq-eqb, ne_eqb}
use Rattle.indexmap.specs.IndexMap.{get, shift_remove_entry}
use Rattle.page_model.specs.Pages.{Pages, Address}
use Rattle.page_model.specs.Spans.{Span, span, SameOutside, IsOff, IsOffAll, IsApartFromAll}
use Rattle.page_model.specs.Lists.{IsList, base_span, node_span, list_spans}
use Rattle.page_model.specs.Steps.{Becomes}
use Rattle.page_model.specs.Counts.{one_if, times}
use Rattle.page_model.proofs.CountLemmas.{times-append}
use Rattle.page_model.proofs.FrameLemmas.{field_kept, outside_then, outside_wider, off_part}
use Rattle.page_model.proofs.SpanLemmas.{from_join}
use Rattle.page_model.proofs.ListLemmas.{list_kept}
use Rattle.page_space.specs.Map.{IsMap, IsUsed, bit, place_of, free_of, GivesPage}
use Rattle.page_space.proofs.MapLemmas.{map_kept}
use Rattle.file_lists.specs.Changes.{ChangesList}
use Rattle.engine_base.specs.Addresses.{address_of}
use Rattle.engine_base.specs.declared.addr.Addr.{Addr}
use Rattle.engine_base.specs.declared.ids.DocId.{DocId}
use Rattle.undo_model.specs.Logs.{node_of}
use Rattle.undo_model.specs.Rows.{Keyed, RowPage, AreRowPages, AreOnce, IsRows, row_base, row_nodes, rows_of, row_for, somes}
use Rattle.store_parts.specs.Appends.{AreUsed}
use Rattle.store_parts.specs.Stored.{row_pages}
use Rattle.store_parts.specs.Standing.{mark}
use Rattle.store_parts.proofs.MoveLemmas.{mark_at, mark_same}
use Rattle.store_parts.proofs.CountLemmas.{on_wider}
use Rattle.row_dir.specs.declared.dir.RowDir.{RowDir}
use Rattle.row_dir.specs.Directory.{free_in, rooms_of, places_in, places_of, place_for, AreFull, IsDirectory}
use Rattle.row_dir.specs.Notes.{ForgetsRow, ForgetsPage}
use Rattle.row_dir.specs.RowPages.{CanChange, page_of}
use Rattle.row_dir.specs.Removes.{RemovesRow, DropsPage}
use Rattle.row_dir.proofs.PlainLemmas.{removes_row}
use Rattle.row_dir.proofs.RowsLemmas.{rows_join, rows_before, rows_behind, rows_around, somes_join, places_join, places_before, places_behind, places_around, once_less}
use Rattle.row_dir.proofs.ChangeLemmas.{are_split, used_among, page_kept}
use Rattle.row_dir.proofs.OpenLemmas.{nodes_miss, nodes_on, OffZero, off_used, zero_nodes, zero_off, nodes_far}
use Rattle.row_dir.proofs.PutLemmas.{rooms_join, all_slots}
use Rattle.row_dir.proofs.ReplaceLemmas.{slot_of_doc}
use Rattle.row_dir.proofs.ForgetLemmas.{full_less}
use Rattle.row_dir.proofs.RemoveLemmas.{shows_without, places_without, directory_without, room_there, remove_there}

nodes_join : (bs cs : List RowPage) → row_nodes (bs ++ cs) ≡ row_nodes bs ++ row_nodes cs
nodes_join [] cs = refl
nodes_join (b ∷ bs) cs = ap (λ (ns : List Address). node_of b.page ∷ ns) (nodes_join bs cs)

once_skip : (xs zs ys : List Keyed) → AreOnce (xs ++ (zs ++ ys)) → AreOnce (xs ++ ys)
once_skip xs [] ys once = once
once_skip xs (z ∷ zs) ys once = once_skip xs zs ys (once_less xs z (zs ++ ys) once).0

times_split : (q : ℕ) (bs : List RowPage) (p : RowPage) (cs : List RowPage) → times q (row_pages (bs ++ p ∷ cs)) ≡ one_if (p.page == q) + times q (row_pages (bs ++ cs))
times_split q [] p cs = refl
times_split q (b ∷ bs) p cs = let r = times_split q bs p cs in omega (arith, r)

used_without : (pages : Pages) (bs : List RowPage) (p : RowPage) (cs : List RowPage) → AreUsed pages (row_nodes (bs ++ p ∷ cs)) → AreUsed pages (row_nodes (bs ++ cs))
used_without pages [] p cs used = used.2
used_without pages (b ∷ bs) p cs used = (used.0, used.1, used_without pages bs p cs used.2)

are_without : (pages : Pages) (bs : List RowPage) (p : RowPage) (cs : List RowPage) → AreRowPages pages (bs ++ p ∷ cs) → AreRowPages pages (bs ++ cs)
are_without pages [] p cs are = are.1
are_without pages (b ∷ bs) p cs are = (are.0, are_without pages bs p cs are.1)

module _ (p0 p1 : Pages) (bs : List RowPage) (p : RowPage) (cs : List RowPage) (is : IsRows p0 row_base (bs ++ p ∷ cs)) (can : CanChange (bs ++ p ∷ cs) p0)
    (removed : ChangesList row_base (row_nodes bs ++ node_of p.page ∷ row_nodes cs) (row_nodes bs ++ row_nodes cs) p0 p1) where
  change : ChangesList row_base (row_nodes (bs ++ p ∷ cs)) (row_nodes (bs ++ cs)) p0 p1
  change =
      subst (λ ns. ChangesList row_base (row_nodes (bs ++ p ∷ cs)) ns p0 p1) (sym (nodes_join bs cs)) (subst (λ all. ChangesList row_base all (row_nodes bs ++ row_nodes cs) p0 p1) (sym (nodes_join bs (p ∷ cs))) removed)

  off : OffZero (bs ++ p ∷ cs)
  off = off_used p0 (bs ++ p ∷ cs) can.used

  bits : (q : ℕ) → bit p1 q ≡ bit p0 q
  bits q = ap (λ (b : ℕ). bit_at b (q % 8)) (change.outside.bytes 0 (place_of q) (inr (inr (omega arith)), zero_off (bs ++ p ∷ cs) (place_of q) off))

  pub map_mid : IsMap p1
  map_mid = map_kept (list_spans row_base (row_nodes (bs ++ p ∷ cs))) p0 p1 change.outside (inr (inl (lit≤ tt)), zero_nodes (bs ++ p ∷ cs) 62 4 off) (inr (inr (lit≤ tt)), zero_nodes (bs ++ p ∷ cs) 128 4_096 off) can.map

  pub used_mid : IsUsed p1 p.page
  used_mid = bits p.page ∙ (used_among p0 bs p cs can.used).1

  free_mid : free_of p1 ≡ free_of p0
  free_mid = field_kept (list_spans row_base (row_nodes (bs ++ p ∷ cs))) p0 p1 0 62 4 change.outside (inr (inl (lit≤ tt)), zero_nodes (bs ++ p ∷ cs) 62 4 off)

  there : p.page < length p0
  there = (are_split p0 bs p cs is.each).1.there

  module _ (p2 : Pages) (gives : GivesPage p.page p1 p2) where
    same02 : SameOutside (list_spans row_base (row_nodes (bs ++ p ∷ cs)) ++ (span 0 62 4 ∷ span 0 (place_of p.page) 1 ∷ [])) p0 p2
    same02 = outside_then (list_spans row_base (row_nodes (bs ++ p ∷ cs))) (span 0 62 4 ∷ span 0 (place_of p.page) 1 ∷ []) p0 p1 p2 change.outside gives.change.outside

    kept : (ps : List RowPage) → AreUsed p0 (row_nodes ps) → AreRowPages p0 ps → AreRowPages p2 ps
    kept [] used are = tt
    kept (r ∷ ps) used are =
        let miss : (at size : ℕ) → (at + size ≤ 38) ⊎ (50 ≤ at) → IsApartFromAll (list_spans row_base (row_nodes (bs ++ p ∷ cs)) ++ (span 0 62 4 ∷ span 0 (place_of p.page) 1 ∷ [])) (span r.page at size) = λ at size side.
        from_join (list_spans row_base (row_nodes (bs ++ p ∷ cs))) (span 0 62 4 ∷ span 0 (place_of p.page) 1 ∷ []) (span r.page at size) (inl used.0, nodes_miss (bs ++ p ∷ cs) r.page at size side) (inl used.0, (inl used.0, tt)) in (
          page_kept _ p0 p2 r same02 (miss 24 2 (inl (lit≤ tt))) (miss 50 2 (inr (lit≤ tt))) (miss 52 16_320 (inr (lit≤ tt))) are.0,
          kept ps used.2 are.1,
        )

    once_now : AreOnce (rows_of (bs ++ cs))
    once_now = subst AreOnce (sym (rows_join bs cs)) (once_skip (rows_of bs) (somes p.slots) (rows_of cs) (subst AreOnce (rows_join bs (p ∷ cs)) is.once))

    list_now : IsList p2 row_base (row_nodes (bs ++ cs))
    list_now = list_kept (span 0 62 4 ∷ span 0 (place_of p.page) 1 ∷ []) p1 p2 row_base (row_nodes (bs ++ cs)) gives.change.outside (
      (inr (inr (lit≤ tt)), (inr (inl (omega arith)), tt)),
      nodes_far (span 0 62 4 ∷ span 0 (place_of p.page) 1 ∷ []) (bs ++ cs) (off_used p0 (bs ++ cs) (used_without p0 bs p cs can.used)) (λ q other. (inl other, (inl other, tt))),
    ) change.list

    marks_now : (q : ℕ) → mark p2 q + times q (row_pages (bs ++ p ∷ cs)) ≡ mark p0 q + times q (row_pages (bs ++ cs))
    marks_now q =
        let t = times_split q bs p cs in
        let m1 : length p1 ≡ length p0 = change.outside.many in
        let m2 : length p2 ≡ length p1 = gives.change.outside.many in
        let th = there in
        elim (cases_eq q p.page) [
          | inl same ↦ (
              let a : mark p2 q ≡ 0 = mark_at p2 q (omega (arith, same, th, m1, m2)) ∙ ap (bit p2) same ∙ gives.change.here in
              let b : mark p0 q ≡ 1 = mark_at p0 q (omega (arith, same, th)) ∙ ap (bit p0) same ∙ (used_among p0 bs p cs can.used).1 in
              let c : one_if (p.page == q) ≡ 1 = ap one_if (eq-eqb p.page q (sym same)) in
              omega (arith, a, b, c, t)
              )
          | inr other ↦ (
              let a = mark_same p0 p2 q (m2 ∙ m1) (gives.change.others q other ∙ bits q) in
              let c : one_if (p.page == q) ≡ 0 = ap one_if (ne_eqb p.page q (λ e. other (sym e))) in
              omega (arith, a, c, t)
              )
        ]

    pub page_dropped : DropsPage bs p cs p0 p2 × (free_of p2 ≡ free_of p0 + 1)
    page_dropped = (
      record {
        spans = map node_span (row_nodes (bs ++ p ∷ cs));
        moves = record {
          outside = outside_wider _ _ p0 p2 (λ q j o.
              (from_off q j o.0 o.1.1.1 o.1.0 (off_part 0 128 4_096 (place_of p.page) 1 q j (omega arith) (let a = there in let b = can.map.size.few in omega (arith, a, b)) o.1.1.0))) same02;
          on = on_wider (row_pages (bs ++ p ∷ cs)) (row_pages (bs ++ p ∷ cs) ++ row_pages (bs ++ cs)) _ (λ q. let c = times-append q (row_pages (bs ++ p ∷ cs)) (row_pages (bs ++ cs)) in omega (arith, c)) (nodes_on (bs ++ p ∷ cs));
          map = gives.map;
          stands = record { list = list_now; each = kept (bs ++ cs) (used_without p0 bs p cs can.used) (are_without p0 bs p cs is.each); once = once_now };
          marks = λ q. let m = marks_now q in omega (arith, m);
        };
      },
      (let f = free_mid in let m = gives.more in omega (arith, f, m)),
    )
      where
        join_off : (ss ts : List Span) (q j : ℕ) → IsOffAll ss q j → IsOffAll ts q j → IsOffAll (ss ++ ts) q j
        join_off [] ts q j a b = b
        join_off (s ∷ ss) ts q j a b = (a.0, join_off ss ts q j a.1 b)

        from_off : (q j : ℕ) → IsOff (base_span row_base) q j → IsOffAll (map node_span (row_nodes (bs ++ p ∷ cs))) q j → IsOff (span 0 62 4) q j → IsOff (span 0 (place_of p.page) 1) q j
            → IsOffAll (list_spans row_base (row_nodes (bs ++ p ∷ cs)) ++ (span 0 62 4 ∷ span 0 (place_of p.page) 1 ∷ [])) q j
        from_off q j base nodes count byte = join_off (list_spans row_base (row_nodes (bs ++ p ∷ cs))) (span 0 62 4 ∷ span 0 (place_of p.page) 1 ∷ []) q j (base, nodes) (count, (byte, tt))

-- ---- the calls, over told pages

pub dropped : (t1 t2 : Option Pages) (pages : Pages) (bs : List RowPage) (p : RowPage) (cs : List RowPage) (n : ℕ) → IsRows pages row_base (bs ++ p ∷ cs) → CanChange (bs ++ p ∷ cs) pages → p.page ≡ n
    → ((before behind : List Address) → IsList pages row_base (before ++ node_of n ∷ behind) → Becomes t1 (ChangesList row_base (before ++ node_of n ∷ behind) (before ++ behind) pages))
    → ((ps : Pages) → t1 ≡ Some ps → IsMap ps → IsUsed ps n → Becomes t2 (GivesPage n ps)) → Becomes t2 (λ new. DropsPage bs p cs pages new × (free_of new ≡ free_of pages + 1))
dropped t1 t2 pages bs p cs n is can same remove give =
    let L : List Address → Type 0 = λ ns. IsList pages row_base ns in
    let list = subst L (nodes_join bs (p ∷ cs)) is.list in
    let remove' : Becomes t1 (ChangesList row_base (row_nodes bs ++ node_of p.page ∷ row_nodes cs) (row_nodes bs ++ row_nodes cs) pages) =
    subst (λ m. (IsList pages row_base (row_nodes bs ++ node_of m ∷ row_nodes cs)) → Becomes t1 (ChangesList row_base (row_nodes bs ++ node_of m ∷ row_nodes cs) (row_nodes bs ++ row_nodes cs) pages)) (sym same) (λ l. remove (row_nodes bs) (row_nodes cs) l) list in
    let give' : (ps : Pages) → t1 ≡ Some ps → IsMap ps → IsUsed ps p.page → Becomes t2 (GivesPage p.page ps) = subst (λ m. (ps : Pages) → t1 ≡ Some ps → IsMap ps → IsUsed ps m → Becomes t2 (GivesPage m ps)) (sym same) give in
    let b = give' remove'.0 remove'.1 (map_mid pages remove'.0 bs p cs is can remove'.2) (used_mid pages remove'.0 bs p cs is can remove'.2) in
    (b.0, b.1, page_dropped pages remove'.0 bs p cs is can remove'.2 b.0 b.2)

pub drops : {X : Type 0} (t1 : Option Pages) (pages : Pages) (bs : List RowPage) (p : RowPage) (cs : List RowPage) (n : ℕ) → IsRows pages row_base (bs ++ p ∷ cs) → CanChange (bs ++ p ∷ cs) pages → p.page ≡ n
    → ((before behind : List Address) → IsList pages row_base (before ++ node_of n ∷ behind) → Becomes t1 (ChangesList row_base (before ++ node_of n ∷ behind) (before ++ behind) pages))
    → ((ps : Pages) → t1 ≡ Some ps → IsMap ps → IsUsed ps n → X) → X
drops {X} t1 pages bs p cs n is can same remove give =
    let L : List Address → Type 0 = λ ns. IsList pages row_base ns in
    let list = subst L (nodes_join bs (p ∷ cs)) is.list in
    let remove' : Becomes t1 (ChangesList row_base (row_nodes bs ++ node_of p.page ∷ row_nodes cs) (row_nodes bs ++ row_nodes cs) pages) =
    subst (λ m. (IsList pages row_base (row_nodes bs ++ node_of m ∷ row_nodes cs)) → Becomes t1 (ChangesList row_base (row_nodes bs ++ node_of m ∷ row_nodes cs) (row_nodes bs ++ row_nodes cs) pages)) (sym same) (λ l. remove (row_nodes bs) (row_nodes cs) l) list in
    give remove'.0 remove'.1 (map_mid pages remove'.0 bs p cs is can remove'.2) (subst (λ m. IsUsed remove'.0 m) same (used_mid pages remove'.0 bs p cs is can remove'.2))

pub listed : (pages : Pages) (bs : List RowPage) (p : RowPage) (cs : List RowPage) (n : ℕ) → IsRows pages row_base (bs ++ p ∷ cs) → p.page ≡ n → IsList pages row_base (row_nodes bs ++ node_of n ∷ row_nodes cs)
listed pages bs p cs n is same = subst (λ m. IsList pages row_base (row_nodes bs ++ node_of m ∷ row_nodes cs)) same (subst (λ ns. IsList pages row_base ns) (nodes_join bs (p ∷ cs)) is.list)

-- ---- the directory without the page

none_in : (n at : ℕ) (ss : List (Option Keyed)) → somes ss ≡ [] → places_in n at ss ≡ []
none_in n at [] e = refl
none_in n at (None ∷ ss) e = none_in n (at + 40) ss e
none_in n at (Some k ∷ ss) e = cc

module _ (old new : Pages) (bs : List RowPage) (n : ℕ) (ss ts : List (Option Keyed)) (cs : List RowPage) (dir mid dir' : RowDir) (k : Keyed) (doc : DocId) (place : Addr)
    (is : IsRows old row_base (bs ++ page_of n (ss ++ Some k ∷ ts) ∷ cs)) (d : IsDirectory dir (bs ++ page_of n (ss ++ Some k ∷ ts) ∷ cs)) (in_page : place.page.0 ≡ n) (its : k.doc ≡ doc.0)
    (alone : (free : ℕ) → get nat_eq dir.pages place.page.0 ≡ Some free → free + 1 ≡ 408) (drop : DropsPage bs (page_of n (ss ++ Some k ∷ ts)) cs old new)
    (frees : ForgetsPage place.page.0 dir mid) (forgets : ForgetsRow doc mid dir') where
  entries_are : dir.pages.entries ≡ rooms_of bs ++ (n, free_in (ss ++ Some k ∷ ts)) ∷ rooms_of cs
  entries_are = d.rooms ∙ rooms_join bs (page_of n (ss ++ Some k ∷ ts) ∷ cs)

  distinct : IsDistinct nat_eq (keys_of (rooms_of bs ++ (n, free_in (ss ++ Some k ∷ ts)) ∷ rooms_of cs))
  distinct = subst (λ es. IsDistinct nat_eq (keys_of es)) entries_are d.each_once

  free_known : free_in (ss ++ Some k ∷ ts) + 1 ≡ 408
  free_known = alone (free_in (ss ++ Some k ∷ ts))
      (ap₂ (λ (es : List (ℕ × ℕ)) (m : ℕ). lookup (nat_eq m) es) entries_are in_page ∙ room_there (rooms_of bs) n (free_in (ss ++ Some k ∷ ts)) (rooms_of cs) distinct)

  one : length (somes ss) + length (somes ts) ≡ 0
  one =
      let m = (are_split old bs (page_of n (ss ++ Some k ∷ ts)) cs is.each).1.many in
      let s = all_slots (ss ++ Some k ∷ ts) in let f = free_known in
      let j = ap length (somes_join ss (Some k ∷ ts)) in let i = length-append (somes ss) (k ∷ somes ts) in omega (arith, m, s, f, j, i)

  none_ss : somes ss ≡ []
  none_ss = nil_from_length (somes ss) (let o = one in omega (arith, o))

  none_ts : somes ts ≡ []
  none_ts = nil_from_length (somes ts) (let o = one in omega (arith, o))

  now_rows : rows_of (bs ++ cs) ≡ rows_before bs ss ++ rows_behind ts cs
  now_rows = rows_join bs cs ∙ (ap (λ (xs : List Keyed). xs ++ rows_of cs) (sym (append-nil (rows_of bs))) ∙ ap₂ (λ (xs ys : List Keyed). (rows_of bs ++ xs) ++ (ys ++ rows_of cs)) (sym none_ss) (sym none_ts))

  now_places : places_of (bs ++ cs) ≡ places_before bs n ss ++ places_behind n ss ts cs
  now_places =
      places_join bs cs ∙ (ap (λ (xs : List (ℕ × Address)). xs ++ places_of cs) (sym (append-nil (places_of bs)))
      ∙ ap₂ (λ (xs ys : List (ℕ × Address)). (places_of bs ++ xs) ++ (ys ++ places_of cs)) (sym (none_in n 52 ss none_ss)) (sym (none_in n (52 + 40 * length ss + 40) ts none_ts)))

  mid_rooms : mid.pages.entries ≡ rooms_of (bs ++ cs)
  mid_rooms =
      frees.pages ∙ (ap₂ (λ (es : List (ℕ × ℕ)) (m : ℕ). shift_remove_entry (nat_eq m) es) entries_are in_page
      ∙ (remove_there (rooms_of bs) n (free_in (ss ++ Some k ∷ ts)) (rooms_of cs) distinct ∙ sym (rooms_join bs cs)))

  mid_full : AreFull (take mid.full mid.pages.entries)
  mid_full =
      let low = frees.first (rooms_of bs) (rooms_of cs) (free_in (ss ++ Some k ∷ ts)) (entries_are ∙ ap (λ (m : ℕ). rooms_of bs ++ (m, free_in (ss ++ Some k ∷ ts)) ∷ rooms_of cs) (sym in_page)) in
      let was = subst (λ es. AreFull (take dir.full es)) entries_are d.full in
      subst (λ es. AreFull (take mid.full es)) (sym (mid_rooms ∙ rooms_join bs cs)) (full_less (rooms_of bs) ((n, free_in (ss ++ Some k ∷ ts)) ∷ rooms_of cs) (rooms_of cs) dir.full mid.full was frees.low low)

  pub last_dropped : RemovesRow doc.0 dir' (bs ++ page_of n (ss ++ Some k ∷ ts) ∷ cs) old new
  last_dropped =
      let rows = bs ++ page_of n (ss ++ Some k ∷ ts) ∷ cs in
      let after = bs ++ cs in
      let a : Address = record { page = n; at = 52 + 40 * length ss } in
      let S : ℕ → Type 0 = λ m. (e : ℕ) → row_for e (rows_of after) ≡ cond (m == e) None (row_for e (rows_of rows)) in
      let P : ℕ → Type 0 = λ m. (e : ℕ) → place_for e (places_of after) ≡ cond (nat_eq m e) None (place_for e (places_of rows)) in
      let shows = shows_without rows after (rows_before bs ss) (rows_behind ts cs) k (places_before bs n ss) (places_behind n ss ts cs) a (rows_around bs n ss (Some k) ts cs) now_rows (places_around bs n ss (Some k) ts cs) now_places is.once in
      let places = places_without rows after (rows_before bs ss) (rows_behind ts cs) k (places_before bs n ss) (places_behind n ss ts cs) a (rows_around bs n ss (Some k) ts cs) now_rows (places_around bs n ss (Some k) ts cs) now_places is.once in
      removes_row rows after drop.spans old new drop.moves doc.0 dir'
      (directory_without dir mid dir' rows after doc d frees.places frees.docs mid_rooms frees.each_once mid_full forgets (subst P its places)) (subst S its shows)

pub dropped_last : (t2 : Option Pages) (old : Pages) (rows : List RowPage) (dir mid dir' : RowDir) (doc : DocId) (place : Addr) → IsRows old row_base rows → CanChange rows old → IsDirectory dir rows → get nat_eq dir.places doc.0 ≡ Some place
    → ((free : ℕ) → get nat_eq dir.pages place.page.0 ≡ Some free → free + 1 ≡ 408)
    → ((before behind : List RowPage) (q : RowPage) → IsRows old row_base (before ++ q ∷ behind) → CanChange (before ++ q ∷ behind) old → q.page ≡ place.page.0 → Becomes t2 (λ new. DropsPage before q behind old new × (free_of new ≡ free_of old + 1)))
    → ForgetsPage place.page.0 dir mid → ForgetsRow doc mid dir' → Becomes t2 (λ new. RemovesRow doc.0 dir' rows old new × (free_of new ≡ free_of old + 1))
dropped_last t2 old rows dir mid dir' doc place is can d has alone drop frees forgets =
    let s = slot_of_doc doc.0 rows (address_of place) (sym (d.finds doc.0) ∙ ap (option_map address_of) has) in
    let Q : List RowPage → Type 0 = λ rs. IsRows old row_base rs × CanChange rs old × IsDirectory dir rs in
    let q = subst Q s.split (is, can, d) in
    let b = drop s.bs s.cs (page_of s.n (s.ss ++ Some s.k ∷ s.ts)) q.0 q.1 (sym s.page) in
    let T : List RowPage → Type 0 = λ rs. RemovesRow doc.0 dir' rs old b.0 in
    (b.0, b.1, (subst T (sym s.split) (last_dropped old b.0 s.bs s.n s.ss s.ts s.cs dir mid dir' s.k doc place q.0 q.2 s.page s.doc alone b.2.0 frees forgets), b.2.1))

-- a document's row page, among the others
pub page_there : (old : Pages) (rows : List RowPage) (dir : RowDir) (doc : ℕ) (place : Addr) → IsRows old row_base rows → CanChange rows old → IsDirectory dir rows → get nat_eq dir.places doc ≡ Some place
    → (before : List RowPage) × (behind : List RowPage) × (q : RowPage) × IsRows old row_base (before ++ q ∷ behind) × CanChange (before ++ q ∷ behind) old × (q.page ≡ place.page.0) × IsDirectory dir (before ++ q ∷ behind)
page_there old rows dir doc place is can d has =
    let s = slot_of_doc doc rows (address_of place) (sym (d.finds doc) ∙ ap (option_map address_of) has) in
    let Q : List RowPage → Type 0 = λ rs. IsRows old row_base rs × CanChange rs old × IsDirectory dir rs in
    let q = subst Q s.split (is, can, d) in
    (s.bs, s.cs, page_of s.n (s.ss ++ Some s.k ∷ s.ts), q.0, q.1, sym s.page, q.2)

-- it is one of the directory's
pub room_known : (rows : List RowPage) (old : Pages) (dir : RowDir) (doc : ℕ) (place : Addr) → IsRows old row_base rows → CanChange rows old → IsDirectory dir rows → get nat_eq dir.places doc ≡ Some place → None ≡ get nat_eq dir.pages place.page.0 → ⊥
room_known rows old dir doc place is can d has none =
    let t = page_there old rows dir doc place is can d has in
    let q = t.2 in
    let e = t.6.rooms ∙ rooms_join t.0 (q ∷ t.1) in
    let distinct = subst (λ es. IsDistinct nat_eq (keys_of es)) e t.6.each_once in
    let some : get nat_eq dir.pages place.page.0 ≡ Some (free_in q.slots) = ap₂ (λ (es : List (ℕ × ℕ)) (m : ℕ). lookup (nat_eq m) es) e (sym t.5) ∙ room_there (rooms_of t.0) q.page (free_in q.slots) (rooms_of t.1) distinct in
    clash (none ∙ some)
  where
    clash : {x : ℕ} → None ≡ Some x → ⊥
    clash h = cc
