-- A LOB stands with a run laid over its data where the run is written in its pages.
use Rattle.std.proofs.Common.{◌≡◌, ◌≢◌, ◌⊎◌, inl, inr, ℕ, ◌+◌, ◌-◌, ◌<◌, ◌≤◌, List, [], ◌∷◌, ◌++◌, map, length, drop, get_or, sym, ap, ap₂, subst, ◌∙◌, lit≤, arith}
use Rattle.std.proofs.lemmas.Bool.{cases_eq}
use Rattle.std.proofs.lemmas.List.{length-take, length-drop, get_or-take, get_or-drop}
use Rattle.page_model.specs.Pages.{Pages, Fits, byte, bytes_at, page_at, written, Address}
use Rattle.page_model.specs.Spans.{Span, span, IsApartFromAll, AreApart, ArePairwiseApart, SameOutside}
use Rattle.page_model.specs.Lists.{IsList, base_span}
use Rattle.page_model.specs.Counts.{IsIn, AreWide, has, covers, times}
use Rattle.page_model.proofs.CountLemmas.{times_here, times-append}
use Rattle.page_model.proofs.CoverLemmas.{has_less, covers_cons, covers_nil, covers_once, map_wide, across_by, from_all_by}
use Rattle.page_model.proofs.FrameLemmas.{field_kept, written_outside, byte-written}
use Rattle.page_model.proofs.ListLemmas.{list_kept}
use Rattle.store_data.specs.Pieces.{Part}
use Rattle.store_data.specs.Store.{Version, Piece, Lob, Run}
use Rattle.store_model.specs.Runs.{version_laid, piece_laid, lob_laid}
use Rattle.store_model.specs.Patches.{IsOld}
use Rattle.store_model.specs.Patches.{IsOffAll as AreOffRuns}
use Rattle.store_model.proofs.RunLemmas.{restores}
use Rattle.lob_model.specs.Pieces.{versions, place_of, head_place}
use Rattle.lob_model.specs.Places.{heads_base, versions_base, free_base, entry_span, head_span, first_span, data_span, data_at, AreEntryPlaces, IsSteady}
use Rattle.lob_model.specs.Lobs.{IsLob, IsVersion, AreVersions, AreBare, HaveLists, HasData, IsEntryOf, entries, entry_count, lob_parts, lob_pages, data_pages}
use Rattle.lob_model.proofs.PartLemmas.{map_split, nodes_apart, heads_apart, tails_of, tail_span, page_kept, chain_kept, entry_kept, lists_kept, data_there, data_elsewhere}
use Rattle.lob_model.proofs.FreeLemmas.{parts_covers}
use Rattle.store_parts.specs.Keeps.{AreAsMany}
use Rattle.store_pages.specs.Runs.{IsOn, IsInside, AreInside, LiesIn}
use Rattle.store_pages.proofs.LaidLemmas.{length-laid, versions_laid, places_laid, heads_laid, spans_laid, pages_laid, falling_laid, full_laid, version_counts, counts_more}

-- ---- the version that the run lies in

record IsUnder (old : Pages) (first : ℕ) (r : Run) (xs : List Version) : Type 0 where
  x : Version
  here : x.page ≡ r.page
  low : x.at ≤ r.at
  high : r.at + length r.bytes ≤ x.at + length x.bytes
  is : IsVersion old first x
  covered : (n k : ℕ) → has (data_span first x) n k ≤ covers (map (data_span first) xs) n k
  counted : r.page ≢ first → 1 ≤ times r.page (data_pages first xs)

under : (old : Pages) (first : ℕ) (r : Run) (xs : List Version) → IsOn r xs → AreInside r xs → AreVersions old first xs → IsUnder old first r xs
under old first r [] on inside are = absurd on
under old first r (x ∷ xs) (inl here) inside are =
    let i = inside.0 here in record {
      x = x;
      here = here;
      low = i.0;
      high = i.1;
      is = are.0;
      covered = λ n k. omega (arith, covers_cons (data_span first x) (map (data_span first) xs) n k);
      counted = λ other. version_counts first x r.page xs here other;
    }
under old first r (x ∷ xs) (inr more) inside are =
    let u = under old first r xs more inside.1 are.1 in record {
      x = u.x;
      here = u.here;
      low = u.low;
      high = u.high;
      is = u.is;
      covered = λ n k. omega (arith, covers_cons (data_span first x) (map (data_span first) xs) n k, u.covered n k);
      counted = λ other. let c = u.counted other in let m = counts_more first r.page x xs in omega (arith, c, m);
    }

-- data begin behind a page's head
behind_head : (first page : ℕ) → 49 ≤ data_at first page
behind_head first page = elim (cases_eq page first) [
  | inl same ↦ let x : Version = record { place = record { page = page; at = 0 }; number = 0; page = page; at = 0; bytes = []; creator = 0; modifier = 0; creator_undo = 0; modifier_undo = 0 } in let e = (data_there first x same).0 in omega (arith, e)
  | inr other ↦ let x : Version = record { place = record { page = page; at = 0 }; number = 0; page = page; at = 0; bytes = []; creator = 0; modifier = 0; creator_undo = 0; modifier_undo = 0 } in let e = (data_elsewhere first x other).0 in omega (arith, e)
]

-- data that stand in a page end in it
ends_in : (old : Pages) (first : ℕ) (x : Version) → HasData old first x → 1 ≤ length x.bytes → x.at + length x.bytes ≤ length (page_at old x.page)
ends_in old first x data' some =
    let at = data_at first x.page in
    let long = ap (λ (bs : List ℕ). length bs) data'.bytes in
    let t = length-take (length x.bytes) (drop at (page_at old x.page)) in
    let d = length-drop at (page_at old x.page) in
    let p = data'.place in
    omega (arith, long, t, d, p, some)

module _ (old : Pages) (l : Lob) (r : Run) (is : IsLob old l) (lies : LiesIn r (versions l.pieces)) where
  abbrev first : ℕ
  first = l.page

  abbrev new : Pages
  new = written old r.page r.at r.bytes

  at : IsUnder old l.page r (versions l.pieces)
  at = under old l.page r (versions l.pieces) lies.on lies.inside is.versions

  page_there : r.page < length old
  page_there = elim at.is.«data».type' [
    | inl same ↦ (let e : r.page ≡ l.page = sym at.here ∙ same in let t = is.first.there in subst (λ (n : ℕ). n < length old) (sym e) t)
    | inr page' ↦ (let t = page'.there in subst (λ (n : ℕ). n < length old) at.here t)
  ]

  low : 49 ≤ r.at
  low = let b = behind_head l.page at.x.page in let p = at.is.«data».place in let w = at.low in omega (arith, b, p, w)

  pub run_fits : Fits old r.page r.at (length r.bytes)
  run_fits =
      let h = at.high in
      let w = at.low in
      let s = lies.some in
      let e = ends_in old l.page at.x at.is.«data» (omega (arith, h, w, s)) in
      record { there = page_there; within = subst (λ (n : ℕ). r.at + length r.bytes ≤ length (page_at old n)) at.here (omega (arith, e, h)) }

  same : SameOutside (span r.page r.at (length r.bytes) ∷ []) old new
  same = written_outside old r.page r.at r.bytes run_fits

  abbrev xs : List Span
  xs = span r.page r.at (length r.bytes) ∷ []

  abbrev rs : List Run
  rs = r ∷ []

  -- ---- the data of a version

  bytes_in : (pages : Pages) (page at n i : ℕ) → i < n → get_or (bytes_at pages page at n) i 0 ≡ byte pages page (at + i)
  bytes_in pages page at n i below = get_or-take n (drop at (page_at pages page)) i 0 below ∙ get_or-drop at (page_at pages page) i 0

  -- as many bytes stand there
  many_there : (x : Version) → HasData old first x → length (bytes_at new x.page x.at (length x.bytes)) ≡ length x.bytes
  many_there x data' =
      let n = length x.bytes in
      let long = ap (λ (bs : List ℕ). length bs) data'.bytes in
      let at' = data_at first x.page in
      let p = data'.place in
      let size = same.sizes x.page in
      omega (
        arith,
        long,
        p,
        size,
        length-take n (drop at' (page_at old x.page)),
        length-drop at' (page_at old x.page),
        length-take n (drop x.at (page_at new x.page)),
        length-drop x.at (page_at new x.page),
      )

  -- a version's data with the run laid over them are what stands there now
  data_now : (x : Version) → HasData old first x → IsInside r x → (version_laid rs x).bytes ≡ bytes_at new x.page x.at (length x.bytes)
  data_now x data' inside =
      let n = length x.bytes in
      let v : Part = record { page = x.page; at = x.at; bytes = bytes_at new x.page x.at n } in
      let many = many_there x data' in
      ap (λ (p : Part). p.bytes) (restores rs v x.bytes (sym many) ((λ here. now here), tt) (λ i below off. rest i (omega (arith, below, many)) off))
    where
      now : x.page ≡ r.page → (let v : Part = record { page = x.page; at = x.at; bytes = bytes_at new x.page x.at (length x.bytes) } in IsOld r v)
      now here =
          let many = many_there x data' in
          let i = inside here in record {
            low = i.0;
            high = omega (arith, i.1, many);
            same = λ k below.
                let j = r.at + k - x.at in
                let e : x.at + j ≡ r.at + k = omega (arith, i.0) in
                sym (
                bytes_in new x.page x.at (length x.bytes) j (omega (arith, below, i.0, i.1))
                ∙ ap (λ (m : ℕ). byte new x.page m) e
                ∙ byte-written old (record { page = r.page; at = r.at; bytes = r.bytes }) x.page (r.at + k) run_fits (here, omega arith, omega (arith, below))
                ∙ ap (λ (m : ℕ). get_or r.bytes m 0) (omega arith)
                );
          }

      rest : (i : ℕ) → i < length x.bytes → AreOffRuns rs x.page (x.at + i) → get_or x.bytes i 0 ≡ get_or (bytes_at new x.page x.at (length x.bytes)) i 0
      rest i below off =
          let P : ℕ → Type 0 = λ a. bytes_at old x.page a (length x.bytes) ≡ x.bytes in
          let stands = subst P (sym data'.place) data'.bytes in
          ap (λ (bs : List ℕ). get_or bs i 0) (sym stands)
          ∙ bytes_in old x.page x.at (length x.bytes) i below
          ∙ sym (same.bytes x.page (x.at + i) off)
          ∙ sym (bytes_in new x.page x.at (length x.bytes) i below)

  head_apart : (page : ℕ) → IsApartFromAll xs (head_span page)
  head_apart page = (inr (inl (let w = low in omega (arith, w))), tt)

  data_laid : (x : Version) → HasData old first x → IsInside r x → HasData new first (version_laid rs x)
  data_laid x data' inside =
      let many = length-laid rs x in record {
        place = data'.place;
        fits = (let f = data'.fits in omega (arith, f, many));
        bytes = ap (λ (m : ℕ). bytes_at new x.page (data_at first x.page) m) many
            ∙ ap (λ (a : ℕ). bytes_at new x.page a (length x.bytes)) (sym data'.place)
            ∙ sym (data_now x data' inside);
        type' = elim data'.type' [
          | inl e ↦ inl e
          | inr page' ↦ inr (page_kept xs old new 5 x.page same (head_apart x.page) page')
        ];
      }

  -- ---- all versions, and their lists

  entry_laid : (a : Address) (x : Version) → IsEntryOf new a x → IsEntryOf new a (version_laid rs x)
  entry_laid a x e = record {
    creator = e.creator;
    modifier = e.modifier;
    creator_undo = e.creator_undo;
    modifier_undo = e.modifier_undo;
    page = e.page;
    long = e.long ∙ sym (length-laid rs x);
    number = e.number;
  }

  are_laid : (vs : List Version) → AreInside r vs → AreApart xs (map tail_span (map place_of vs)) → AreVersions old first vs → AreVersions new first (map (version_laid rs) vs)
  are_laid [] inside apart are = tt
  are_laid (x ∷ vs) inside apart are = (
    record {
      entry = entry_laid x.place x (entry_kept xs old new x.place x same apart.0 are.0.entry);
      «data» = data_laid x are.0.«data» inside.0;
    },
    are_laid vs inside.1 apart.1 are.1,
  )

  bare_laid : (vs : List Version) → AreBare new vs → AreBare new (map (version_laid rs) vs)
  bare_laid [] are = tt
  bare_laid (x ∷ vs) are = (are.0, bare_laid vs are.1)

  lists_laid : (ps : List Piece) → HaveLists new ps → HaveLists new (map (piece_laid rs) ps)
  lists_laid [] have = tt
  lists_laid (p ∷ ps) have = (
    subst (λ (zs : List Address). IsList new (versions_base p.head.place) zs) (sym (places_laid rs p.older)) have.0,
    bare_laid p.older have.1,
    lists_laid ps have.2,
  )

  -- ---- the LOB

  -- the run lies in what its version has of the page
  inside_span : (n k : ℕ) → covers xs n k ≤ has (data_span l.page at.x) n k
  inside_span n k = omega (arith, covers_cons (span r.page r.at (length r.bytes)) [] n k, covers_nil n k, has_less (span r.page r.at (length r.bytes)) (data_span l.page at.x) n k (λ is_in. go is_in))
    where
      go : IsIn (span r.page r.at (length r.bytes)) n k → IsIn (data_span l.page at.x) n k
      go is_in =
          let fits = at.is.«data».fits in
          let place = at.is.«data».place in
          let w = at.low in
          let h = at.high in
          let b = is_in.1 in
          let c = is_in.2 in
          elim (cases_eq at.x.page l.page) [
            | inl e ↦ (let d = data_there l.page at.x e in let d0 = d.0 in let d1 = d.1 in
                subst (λ (s : Span). IsIn s n k) (sym d.2) (is_in.0 ∙ sym at.here ∙ e, omega (arith, place, d0, w, b), omega (arith, place, d0, d1, fits, h, c)))
            | inr other ↦ (let d = data_elsewhere l.page at.x other in let d0 = d.0 in let d1 = d.1 in
                subst (λ (s : Span). IsIn s n k) (sym d.2) (is_in.0 ∙ sym at.here, omega arith, omega (arith, place, d0, d1, fits, h, c)))
          ]

  places_same : map place_of (versions (map (piece_laid rs) l.pieces)) ≡ map place_of (versions l.pieces)
  places_same = ap (map place_of) (versions_laid rs l.pieces) ∙ places_laid rs (versions l.pieces)

  entries_same : entries (lob_laid rs l) [] ≡ entries l []
  entries_same = ap (λ (zs : List Address). zs ++ (l.free ++ [])) places_same

  parts_same : lob_parts (lob_laid rs l) [] ≡ lob_parts l []
  parts_same =
      ap₂ (λ (es : List Address) (ds : List Span). first_span l.page ∷ base_span (heads_base l.page) ∷ base_span (free_base l.page) ∷ (map head_span l.index ++ (map entry_span es ++ ds)))
      entries_same
      (ap (map (data_span l.page)) (versions_laid rs l.pieces) ∙ spans_laid rs l.page (versions l.pieces))

  pub lob_stands_laid : IsLob new (lob_laid rs l)
  lob_stands_laid =
      let once = covers_once (lob_parts l []) is.shape.apart in
      let wide : AreWide xs = (lies.some, tt) in
      let placed = map place_of (versions l.pieces) in
      let chain = across_by xs (map head_span l.index) wide (map_wide head_span l.index (λ n. lit≤ tt)) (λ n k. omega (arith, inside_span n k, at.covered n k, once n k, parts_covers l [] n k)) in
      let entries' = across_by xs (map entry_span placed) wide (map_wide entry_span placed (λ a. lit≤ tt)) (λ n k. omega (arith, inside_span n k, at.covered n k, once n k, parts_covers l [] n k)) in
      let frees = across_by xs (map entry_span (l.free ++ [])) wide (map_wide entry_span (l.free ++ []) (λ a. lit≤ tt)) (λ n k. omega (arith, inside_span n k, at.covered n k, once n k, parts_covers l [] n k)) in
      let hb = from_all_by xs (base_span (heads_base l.page)) wide (lit≤ tt) (λ n k. omega (arith, inside_span n k, at.covered n k, once n k, parts_covers l [] n k)) in
      let fb = from_all_by xs (base_span (free_base l.page)) wide (lit≤ tt) (λ n k. omega (arith, inside_span n k, at.covered n k, once n k, parts_covers l [] n k)) in
      let steady = subst (λ (zs : List Address). IsSteady 0 l.page zs) (sym (heads_laid rs l.pieces)) is.shape.steady in
      let entries_at = subst (λ (zs : List Address). AreEntryPlaces l.page l.index zs) (sym entries_same) is.shape.places in
      record {
        first = page_kept xs old new 4 l.page same (head_apart l.page) is.first;
        version = field_kept xs old new l.page 40 4 same (inr (inl (let w = low in omega (arith, w))), tt) ∙ is.version;
        chain = chain_kept xs old new l.page l.index same (head_apart l.page) chain is.chain;
        heads = subst (λ (zs : List Address). IsList new (heads_base l.page) zs) (sym (heads_laid rs l.pieces)) (list_kept xs old new (heads_base l.page) (map head_place l.pieces) same (hb, heads_apart xs l.pieces entries') is.heads);
        free = list_kept xs old new (free_base l.page) l.free same (fb, nodes_apart xs l.free (map_split entry_span xs l.free [] frees).0) is.free;
        lists = lists_laid l.pieces (lists_kept xs old new l.pieces same entries' is.lists);
        versions = subst (λ (vs : List Version). AreVersions new l.page vs) (sym (versions_laid rs l.pieces)) (are_laid (versions l.pieces) lies.inside (tails_of xs placed entries') is.versions);
        shape = record {
          steady = steady;
          falling = falling_laid rs (l.version + 1) l.pieces is.shape.falling;
          full = full_laid rs 15_680 16_327 l.pieces is.shape.full;
          places = entries_at;
          all = subst (λ (zs : List Address). (length zs ≡ entry_count l) ⊎ (length zs ≡ 0)) (sym entries_same) is.shape.all;
          apart = subst ArePairwiseApart (sym parts_same) is.shape.apart;
        };
      }

  -- it has the pages that it had, among them the run's
  pub as_many : AreAsMany (lob_pages l) (lob_pages (lob_laid rs l))
  as_many n = ap (λ (ps : List ℕ). times n (l.page ∷ (l.index ++ ps))) (sym (ap (data_pages l.page) (versions_laid rs l.pieces) ∙ pages_laid rs l.page (versions l.pieces)))

  pub has_page : 1 ≤ times r.page (lob_pages l)
  has_page = elim (cases_eq r.page l.page) [
    | inl e ↦ (subst (λ (n : ℕ). 1 ≤ times n (l.page ∷ (l.index ++ data_pages l.page (versions l.pieces)))) (sym e) (times_here l.page (l.index ++ data_pages l.page (versions l.pieces))))
    | inr other ↦ (let c = at.counted other in let t = times-append r.page l.index (data_pages l.page (versions l.pieces)) in omega (arith, c, t))
  ]
