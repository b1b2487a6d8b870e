-- The page of a version's data given back: how many pages a LOB has with it and without, and what is left.
use Rattle.std.proofs.Common.{◌≡◌, ◌≢◌, inl, inr, ℕ, ◌+◌, ◌<◌, ◌≤◌, ◌==◌, Bool, true, false, cond, List, [], ◌∷◌, ◌++◌, length, sym, ap, ◌∙◌, subst, arith}
use Rattle.std.proofs.lemmas.Bool.{cond-true, cond-false, eq-eqb, ne_eqb}
use Rattle.page_model.specs.Pages.{Pages}
use Rattle.page_model.specs.Spans.{SameOutside}
use Rattle.page_model.specs.Counts.{times}
use Rattle.page_model.proofs.CountLemmas.{times_here}
use Rattle.page_model.proofs.FrameLemmas.{outside_wider}
use Rattle.page_space.specs.Map.{IsMap, IsUsed, map_spans}
use Rattle.store_data.specs.Store.{Version, Lob}
use Rattle.store_parts.specs.Keeps.{Keeps}
use Rattle.store_parts.proofs.KeepLemmas.{keeps_give, keeps_then, keeps_same}
use Rattle.lob_model.specs.Lobs.{IsLob, lob_pages, data_pages}
use Rattle.lob_model.proofs.KeptLemmas.{lob_kept}
use Rattle.lob_index.specs.Use.{AreUsed, GivesPages}
use Rattle.lob_index.specs.Data.{data_given, GivesData}
use Rattle.lob_index.proofs.UseLemmas.{gives_one}
use Rattle.lob_index.proofs.OwnLemmas.{pages_of, same_fewer, bit_same, gives_nothing, gives_behind, keeps_own, map_apart, then_map}

-- ---- how many

-- the page of one version's data before those of others
pub data_one : (n first : ℕ) (x : Version) (more : List Version) → times n (data_pages first (x ∷ more)) ≡ times n (data_given first x.page) + times n (data_pages first more)
data_one n first x more = by (x.page == first)
  where
    by : (b : Bool) → times n (cond b (data_pages first more) (x.page ∷ data_pages first more)) ≡ times n (cond b [] (x.page ∷ [])) + times n (data_pages first more)
    by true = omega arith
    by false = omega arith

-- the pages of two lists of versions
pub data_split : (n first : ℕ) (xs ys : List Version) → times n (data_pages first (xs ++ ys)) ≡ times n (data_pages first xs) + times n (data_pages first ys)
data_split n first [] ys = omega arith
data_split n first (x ∷ xs) ys =
    let a = data_one n first x (xs ++ ys) in
    let b = data_one n first x xs in
    let r = data_split n first xs ys in
    omega (arith, a, b, r)

-- ---- what is left

-- the LOB that is left, of which the pages `own` were with the data's, and `within` were written
pub record IsLeft (own within : List ℕ) (lob : Lob) (page : ℕ) (old new : Pages) : Type 0 where
  pub lob' : IsLob new lob
  pub gives : GivesPages (data_given lob.page page) old new
  pub outside : SameOutside (map_spans ++ pages_of within) old new
  pub keeps : Keeps [] own (lob_pages lob) old new

module _ (own within : List ℕ) (lob : Lob) (page : ℕ) (old mid : Pages) (used : AreUsed old own) (cut : (n : ℕ) → times n own ≡ times n (data_given lob.page page) + times n (lob_pages lob))
    (less : (n : ℕ) → times n within ≤ times n own) (same : SameOutside (pages_of within) old mid) where
  wide : SameOutside (pages_of own) old mid
  wide = same_fewer own within old mid less same

  -- the page of the data is used, unless it is the first one
  pub data_used : page ≢ lob.page → IsUsed mid page
  data_used other =
      bit_same own old mid used.other wide page
      ∙ used.each page (
      let c = cut page in
      let h = times_here page [] in
      let e : times page (data_given lob.page page) ≡ times page (page ∷ []) = ap (times page) (cond-false (page == lob.page) [] (page ∷ []) (ne_eqb page lob.page other)) in
      omega (arith, c, h, e)
      )

  -- with the page given back, or being the first one, the LOB is left
  pub page_given : (new : Pages) → page < length old → IsMap old → IsLob mid lob → GivesData lob.page page mid new → IsLeft own within lob page old new
  page_given new there map' stands (inl stays) =
      let e : data_given lob.page page ≡ [] = cond-true (page == lob.page) [] (page ∷ []) (eq-eqb page lob.page stays.0) in
      let R : Pages → Type 0 = λ ps. IsLeft own within lob page old ps in
      subst R (sym stays.1) (record {
        lob' = stands;
        gives = subst (λ (ns : List ℕ). GivesPages ns old mid) (sym e) (gives_nothing own old mid used.other wide map');
        outside = outside_wider (pages_of within) (map_spans ++ pages_of within) old mid (λ n k off. off.1.1) same;
        keeps = keeps_then [] own own (lob_pages lob) old mid mid (keeps_own own old mid used.other wide)
            (keeps_same [] own (lob_pages lob) mid (λ n. let c = cut n in let z : times n (data_given lob.page page) ≡ 0 = ap (times n) e in omega (arith, c, z)));
      })
  page_given new there map' stands (inr gives) =
      let e : data_given lob.page page ≡ page ∷ [] = cond-false (page == lob.page) [] (page ∷ []) (ne_eqb page lob.page gives.0) in
      let one : (n : ℕ) → times n own ≡ times n (page ∷ []) + times n (lob_pages lob) = λ n. let c = cut n in let z : times n (data_given lob.page page) ≡ times n (page ∷ []) = ap (times n) e in omega (arith, c, z) in
      let clear : times 0 (lob_pages lob) ≡ 0 = let c = cut 0 in let o = used.other in omega (arith, c, o) in
      let few = map'.size.few in
      record {
        lob' = lob_kept _ mid new lob gives.1.change.outside (map_apart (lob_pages lob) page clear) stands;
        gives = subst (λ (ns : List ℕ). GivesPages ns old new) (sym e) (gives_behind own old mid used.other wide (page ∷ []) new (gives_one page mid new (data_used gives.0) gives.1));
        outside = then_map within page old mid new (omega (arith, there, few)) same gives.1.change.outside;
        keeps = keeps_then [] own own (lob_pages lob) old mid new (keeps_own own old mid used.other wide) (keeps_give [] own (lob_pages lob) page mid new (λ n. omega arith) one gives.1);
      }
