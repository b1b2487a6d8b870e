-- Runs laid over the versions of a LOB, as plain data: what they leave as it was.
use Rattle.std.proofs.Common.{◌≡◌, ◌≢◌, inl, inr, ℕ, ◌+◌, ◌≤◌, ◌==◌, Bool, true, if◌then◌else◌, cond, List, [], ◌∷◌, ◌++◌, map, length, Some, refl, sym, ap, ap₂, subst, ◌∙◌, arith}
use Rattle.std.proofs.lemmas.Bool.Decides.{eqb_tells}
use Rattle.page_model.specs.Counts.{times, one_if}
use Rattle.page_model.proofs.CountLemmas.{times-append}
use Rattle.undo_model.proofs.OptionLemmas.{some_some, not_some}
use Rattle.store_data.specs.Pieces.{Part, part_of}
use Rattle.store_data.specs.Store.{Version, Piece, Lob, Run}
use Rattle.store_model.specs.Lobs.{lob_of}
use Rattle.store_model.specs.Steps.{on_lob}
use Rattle.store_model.specs.Runs.{bytes_laid, version_laid, piece_laid, lob_laid, lobs_laid}
use Rattle.store_model.proofs.RunLemmas.{all_laid-over, length-all_over}
use Rattle.lob_model.specs.Pieces.{piece_versions, versions, place_of, head_place, IsFalling, AreFalling, HaveLength, AreFull}
use Rattle.lob_model.specs.Places.{data_span}
use Rattle.lob_model.specs.Lobs.{data_pages, lob_pages}
use Rattle.store_parts.specs.Stored.{pages_of}
use Rattle.store_pages.specs.Runs.{IsOn, AreInside, LieIn}

-- ---- lists of versions

-- as many bytes
pub length-laid : (rs : List Run) (x : Version) → length (version_laid rs x).bytes ≡ length x.bytes
length-laid rs x = ap (λ (p : Part). length p.bytes) (all_laid-over rs (part_of x) x.bytes) ∙ length-all_over rs x.page x.at x.bytes

map_joined : (rs : List Run) (xs ys : List Version) → map (version_laid rs) (xs ++ ys) ≡ map (version_laid rs) xs ++ map (version_laid rs) ys
map_joined rs [] ys = refl
map_joined rs (x ∷ xs) ys = ap (λ (zs : List Version). version_laid rs x ∷ zs) (map_joined rs xs ys)

pub versions_laid : (rs : List Run) (ps : List Piece) → versions (map (piece_laid rs) ps) ≡ map (version_laid rs) (versions ps)
versions_laid rs [] = refl
versions_laid rs (p ∷ ps) = ap (λ (zs : List Version). piece_versions (piece_laid rs p) ++ zs) (versions_laid rs ps) ∙ sym (map_joined rs (piece_versions p) (versions ps))

pub places_laid : (rs : List Run) (xs : List Version) → map place_of (map (version_laid rs) xs) ≡ map place_of xs
places_laid rs [] = refl
places_laid rs (x ∷ xs) = ap (λ zs. x.place ∷ zs) (places_laid rs xs)

pub heads_laid : (rs : List Run) (ps : List Piece) → map head_place (map (piece_laid rs) ps) ≡ map head_place ps
heads_laid rs [] = refl
heads_laid rs (p ∷ ps) = ap (λ zs. p.head.place ∷ zs) (heads_laid rs ps)

pub spans_laid : (rs : List Run) (first : ℕ) (xs : List Version) → map (data_span first) (map (version_laid rs) xs) ≡ map (data_span first) xs
spans_laid rs first [] = refl
spans_laid rs first (x ∷ xs) = ap (λ zs. data_span first x ∷ zs) (spans_laid rs first xs)

pub pages_laid : (rs : List Run) (first : ℕ) (xs : List Version) → data_pages first (map (version_laid rs) xs) ≡ data_pages first xs
pages_laid rs first [] = refl
pages_laid rs first (x ∷ xs) = ap (λ zs. cond (x.page == first) zs (x.page ∷ zs)) (pages_laid rs first xs)

falling_versions : (rs : List Run) (bound : ℕ) (xs : List Version) → IsFalling bound xs → IsFalling bound (map (version_laid rs) xs)
falling_versions rs bound [] are = tt
falling_versions rs bound (x ∷ xs) are = (are.0, falling_versions rs x.number xs are.1)

pub falling_laid : (rs : List Run) (bound : ℕ) (ps : List Piece) → AreFalling bound ps → AreFalling bound (map (piece_laid rs) ps)
falling_laid rs bound [] are = tt
falling_laid rs bound (p ∷ ps) are = (falling_versions rs bound (piece_versions p) are.0, falling_laid rs bound ps are.1)

long_versions : (rs : List Run) (n m : ℕ) (xs : List Version) → n ≡ m → HaveLength n xs → HaveLength m (map (version_laid rs) xs)
long_versions rs n m [] same are = tt
long_versions rs n m (x ∷ xs) same are = (length-laid rs x ∙ are.0 ∙ same, long_versions rs n m xs same are.1)

pub full_laid : (rs : List Run) (room others : ℕ) (ps : List Piece) → AreFull room others ps → AreFull room others (map (piece_laid rs) ps)
full_laid rs room others [] are = tt
full_laid rs room others (p ∷ []) are =
    let same = length-laid rs p.head in
    (omega (arith, same, are.0), long_versions rs (length p.head.bytes) (length (version_laid rs p.head).bytes) p.older (sym same) are.1)
full_laid rs room others (p ∷ q ∷ ps) are = (long_versions rs room room (piece_versions p) refl are.0, full_laid rs others others (q ∷ ps) are.1)

-- ---- no runs, and a run before others

none_laid : (xs : List Version) → map (version_laid []) xs ≡ xs
none_laid [] = refl
none_laid (x ∷ xs) = ap (λ zs. x ∷ zs) (none_laid xs)

none_pieces : (ps : List Piece) → map (piece_laid []) ps ≡ ps
none_pieces [] = refl
none_pieces (p ∷ ps) = ap₂ (λ (zs : List Version) (qs : List Piece). let q : Piece = record { head = p.head; older = zs } in q ∷ qs) (none_laid p.older) (none_pieces ps)

pub no_runs : (ls : List Lob) → lobs_laid [] ls ≡ ls
no_runs [] = refl
no_runs (l ∷ ls) = ap₂ (λ (ps : List Piece) (ms : List Lob). let m : Lob = record l { pieces = ps } in m ∷ ms) (none_pieces l.pieces) (no_runs ls)

versions_then : (r : Run) (rs : List Run) (xs : List Version) → map (version_laid rs) (map (version_laid (r ∷ [])) xs) ≡ map (version_laid (r ∷ rs)) xs
versions_then r rs [] = refl
versions_then r rs (x ∷ xs) = ap (λ zs. version_laid (r ∷ rs) x ∷ zs) (versions_then r rs xs)

pieces_then : (r : Run) (rs : List Run) (ps : List Piece) → map (piece_laid rs) (map (piece_laid (r ∷ [])) ps) ≡ map (piece_laid (r ∷ rs)) ps
pieces_then r rs [] = refl
pieces_then r rs (p ∷ ps) =
    ap₂ (λ (zs : List Version) (qs : List Piece). let q : Piece = record { head = version_laid (r ∷ rs) p.head; older = zs } in q ∷ qs) (versions_then r rs p.older) (pieces_then r rs ps)

pub runs_then : (r : Run) (rs : List Run) (ls : List Lob) → lobs_laid rs (lobs_laid (r ∷ []) ls) ≡ lobs_laid (r ∷ rs) ls
runs_then r rs [] = refl
runs_then r rs (l ∷ ls) = ap₂ (λ (ps : List Piece) (ms : List Lob). let m : Lob = record l { pieces = ps } in m ∷ ms) (pieces_then r rs l.pieces) (runs_then r rs ls)

-- runs lie within versions whatever was laid over them
on_laid : (r : Run) (rs : List Run) (xs : List Version) → IsOn r xs → IsOn r (map (version_laid rs) xs)
on_laid r rs [] on = on
on_laid r rs (x ∷ xs) (inl here) = inl here
on_laid r rs (x ∷ xs) (inr more) = inr (on_laid r rs xs more)

inside_laid : (r : Run) (rs : List Run) (xs : List Version) → AreInside r xs → AreInside r (map (version_laid rs) xs)
inside_laid r rs [] are = tt
inside_laid r rs (x ∷ xs) are = ((λ e. let i = are.0 e in let same = length-laid rs x in (i.0, omega (arith, i.1, same))), inside_laid r rs xs are.1)

pub lie_laid : (qs rs : List Run) (xs : List Version) → LieIn qs xs → LieIn qs (map (version_laid rs) xs)
lie_laid [] rs xs lie = tt
lie_laid (q ∷ qs) rs xs lie = (record { some = lie.0.some; on = on_laid q rs xs lie.0.on; inside = inside_laid q rs xs lie.0.inside }, lie_laid qs rs xs lie.1)

-- ---- a run of a page that a LOB doesn't have

other_version : (r : Run) (x : Version) → x.page ≢ r.page → version_laid (r ∷ []) x ≡ x
other_version r x other = elim (eqb_tells x.page r.page) [
  | inl same ↦ absurd (other same.1)
  | inr no' ↦ ap (λ (b : Bool). let y : Version = record x { bytes = if b then bytes_laid r x.at x.bytes else x.bytes } in y) no'.0
]

pages_joined : (n first : ℕ) (xs ys : List Version) → times n (data_pages first (xs ++ ys)) ≡ times n (data_pages first xs) + times n (data_pages first ys)
pages_joined n first [] ys = omega arith
pages_joined n first (x ∷ xs) ys = elim (eqb_tells x.page first) [
  | inl same ↦ rw same.0 (pages_joined n first xs ys)
  | inr other ↦ rw other.0 (let e = pages_joined n first xs ys in omega (arith, e))
]

-- a version's page is the first one, or is counted
pub version_counts : (first : ℕ) (x : Version) (n : ℕ) (xs : List Version) → x.page ≡ n → n ≢ first → 1 ≤ times n (data_pages first (x ∷ xs))
version_counts first x n xs here other = elim (eqb_tells x.page first) [
  | inl same ↦ absurd (other (sym here ∙ same.1))
  | inr no' ↦ rw no'.0 (elim (eqb_tells x.page n) [
    | inl is ↦ rw is.0 (omega arith)
    | inr not' ↦ absurd (not'.1 here)
  ])
]

pub counts_more : (first n : ℕ) (x : Version) (xs : List Version) → times n (data_pages first xs) ≤ times n (data_pages first (x ∷ xs))
counts_more first n x xs = elim (eqb_tells x.page first) [
  | inl same ↦ rw same.0 (omega arith)
  | inr other ↦ rw other.0 (omega arith)
]

others_laid : (r : Run) (first : ℕ) (xs : List Version) → r.page ≢ first → times r.page (data_pages first xs) ≡ 0 → map (version_laid (r ∷ [])) xs ≡ xs
others_laid r first [] other none = refl
others_laid r first (x ∷ xs) other none =
    ap₂ (λ (y : Version) (ys : List Version). y ∷ ys)
    (other_version r x (λ here. let c = version_counts first x r.page xs here other in absurd (omega (arith, c, none))))
    (others_laid r first xs other (let c = counts_more first r.page x xs in omega (arith, c, none)))

others_pieces : (r : Run) (first : ℕ) (ps : List Piece) → r.page ≢ first → times r.page (data_pages first (versions ps)) ≡ 0 → map (piece_laid (r ∷ [])) ps ≡ ps
others_pieces r first [] other none = refl
others_pieces r first (p ∷ ps) other none =
    let both = pages_joined r.page first (piece_versions p) (versions ps) in
    let own : times r.page (data_pages first (piece_versions p)) ≡ 0 = omega (arith, both, none) in
    let c = counts_more first r.page p.head p.older in
    let head : version_laid (r ∷ []) p.head ≡ p.head = other_version r p.head (λ here. let d = version_counts first p.head r.page p.older here other in absurd (omega (arith, d, own))) in
    let older = others_laid r first p.older other (omega (arith, c, own)) in
    ap₂ (λ (q : Piece) (qs : List Piece). q ∷ qs) (ap₂ (λ (h : Version) (zs : List Version). let q : Piece = record { head = h; older = zs } in q) head older) (others_pieces r first ps other (omega (arith, both, none)))

other_lob : (r : Run) (l : Lob) → times r.page (lob_pages l) ≡ 0 → lob_laid (r ∷ []) l ≡ l
other_lob r l none =
    let rest = times-append r.page l.index (data_pages l.page (versions l.pieces)) in
    elim (eqb_tells l.page r.page) [
      | inl same ↦ absurd (counted same.0)
      | inr other ↦ ap (λ (ps : List Piece). let m : Lob = record l { pieces = ps } in m) (others_pieces r l.page l.pieces (λ e. other.1 (sym e)) (let n = none in omega (arith, rest, n)))
    ]
  where
    counted : (l.page == r.page) ≡ true → ⊥
    counted same = let P : Bool → Type 0 = λ b. one_if b + times r.page (l.index ++ data_pages l.page (versions l.pieces)) ≡ 0 in let n = subst P same none in omega (arith, n)

none_have : (r : Run) (ls : List Lob) → times r.page (pages_of ls) ≡ 0 → lobs_laid (r ∷ []) ls ≡ ls
none_have r [] none = refl
none_have r (l ∷ ls) none =
    let both = times-append r.page (lob_pages l) (pages_of ls) in
    ap₂ (λ (m : Lob) (ms : List Lob). m ∷ ms) (other_lob r l (omega (arith, both, none))) (none_have r ls (omega (arith, both, none)))

-- of LOBs that have no page twice the one with the run's page alone has it laid
pub one_laid : (r : Run) (ls : List Lob) (page : ℕ) (l : Lob) → lob_of ls page ≡ Some l → 1 ≤ times r.page (lob_pages l) → times r.page (pages_of ls) ≤ 1
    → (lobs_laid (r ∷ []) ls ≡ on_lob page (lob_laid (r ∷ [])) ls) × (lob_of (lobs_laid (r ∷ []) ls) page ≡ Some (lob_laid (r ∷ []) l)) × (1 ≤ times r.page (pages_of ls))
one_laid r [] page l is has once = absurd (not_some l is)
one_laid r (m ∷ ms) page l is has once =
    let both = times-append r.page (lob_pages m) (pages_of ms) in
    elim (eqb_tells m.page page) [
      | inl same ↦ (
          let e : m ≡ l = some_some m l (ap (λ (b : Bool). if b then Some m else lob_of ms page) (sym same.0) ∙ is) in
          let here : 1 ≤ times r.page (lob_pages m) = subst (λ (x : Lob). 1 ≤ times r.page (lob_pages x)) (sym e) has in (
            ap (λ (qs : List Lob). lob_laid (r ∷ []) m ∷ qs) (none_have r ms (omega (arith, both, once, here))) ∙ sym (ap (λ (b : Bool). if b then lob_laid (r ∷ []) m ∷ ms else m ∷ on_lob page (lob_laid (r ∷ [])) ms) same.0),
            ap (λ (b : Bool). if b then Some (lob_laid (r ∷ []) m) else lob_of (lobs_laid (r ∷ []) ms) page) same.0 ∙ ap (λ (x : Lob). Some (lob_laid (r ∷ []) x)) e,
            omega (arith, both, here),
          )
          )
      | inr other ↦ (
          let rest = one_laid r ms page l (ap (λ (b : Bool). if b then Some m else lob_of ms page) (sym other.0) ∙ is) has (omega (arith, both, once)) in (
            ap₂ (λ (x : Lob) (qs : List Lob). x ∷ qs) (other_lob r m (let some = rest.2 in omega (arith, both, once, some))) rest.0 ∙ sym (ap (λ (b : Bool). if b then lob_laid (r ∷ []) m ∷ ms else m ∷ on_lob page (lob_laid (r ∷ [])) ms) other.0),
            ap (λ (b : Bool). if b then Some (lob_laid (r ∷ []) m) else lob_of (lobs_laid (r ∷ []) ms) page) other.0 ∙ rest.1,
            (let some = rest.2 in omega (arith, both, some)),
          )
          )
    ]
