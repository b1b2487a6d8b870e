-- A version sought along a list of versions, so many at a time.
--     Tells n v xs outcome      what it says of the version that is to be read at v
--     sought n v xs      the place of the first of n whose number is at most v; or that of the
--         next one to look at; or none is left
use Rattle.std.specs.Prelude.{◌≡◌, ℕ, zero, suc, cond, nat_le, List, [], ◌∷◌, drop, None, IfSome, IsSome}
use Rattle.page_model.specs.Pages.{Address}
use Rattle.store_data.specs.Store.{Version}
use Rattle.store_data.specs.Pieces.{version_at}

pub data Sought : Type 0 where
  at : Address → Sought
  more : Address → Sought
  gone : Sought

unfoldable pub sought : ℕ → ℕ → List Version → Sought
sought n v [] = gone
sought zero v (x ∷ rest) = more x.place
sought (suc n) v (x ∷ rest) = cond (nat_le x.number v) (at x.place) (sought n v rest)

-- what the outcome says of the version that is to be read
abbrev pub Tells : ℕ → ℕ → List Version → Sought → Type 0
Tells n v xs (at a) = IsSome (version_at xs v) × IfSome (version_at xs v) (λ x. x.place ≡ a)
Tells n v xs (more a) = version_at xs v ≡ version_at (drop n xs) v
Tells n v xs gone = version_at xs v ≡ None
