-- What a cache that keeps all its pages is as a cache.
use Rattle.std.proofs.Common.{◌≡◌, ℕ, nat_lt, Bool, IsTrue, [], length, Option, Some, All, refl, sym, ap, subst, ◌∙◌}
use Rattle.std.specs.Option.{unwrap_or}
use Rattle.page_model.specs.Pages.{Pages, AreWhole, page_bytes}
use Rattle.mini_trx.specs.Caches.{CacheState, KeepsPages}

pub whole_resident : (items pages : Pages) → Some items ≡ Some pages
    → All (λ page. length page ≡ page_bytes) items → AreWhole pages (length items)
whole_resident items pages told each =
    let same : items ≡ pages = ap (λ (o : Option Pages). unwrap_or o []) told in
    let P : Pages → Type 0 = λ ps. AreWhole ps (length items) in
    subst P same (record { many = refl; each = λ n below. each n [] below })

pub keeps_resident : (c d : CacheState) (a b : Pages) → b ≡ a → c.told ≡ Some a → d.told ≡ Some b
    → c.count ≡ length a → d.count ≡ length b
    → c.holds ≡ (λ n. nat_lt n (length a)) → d.holds ≡ (λ n. nat_lt n (length b)) → KeepsPages c d
keeps_resident c d a b same told told' count count' holds holds' = record {
  told = told' ∙ ap (λ (ps : Pages). Some ps) same ∙ sym told;
  count = count' ∙ ap length same ∙ sym count;
  holds = λ n is.
      let P : (ℕ → Bool) → Type 0 = λ f. IsTrue (f n) in
      let Q : Pages → Type 0 = λ ps. IsTrue (nat_lt n (length ps)) in
      subst P (sym holds') (subst Q (sym same) (subst P holds is));
}
