-- How the rows of a document in a store tell the changes that a journal makes of it.
--     bytes_of      the stored bytes of a kept document
--     AreNamed      each row is of the transaction of its change's owner; behind them is one row
--         more, whose transaction is old
--     Shows      a row shows it, and has its length
--     AreKnown      the rows show what the changes left, down to the first that is among so many
--         commits; what lies behind that isn't said
--     IsOf      the rows of a store and the history in a journal, apart from changes that are
--         undone or purged in the store alone
use Rattle.std.specs.Prelude.{◌≡◌, ◌≢◌, ℕ, Bool, true, false, List, [], ◌∷◌, length, Option, Some, option_map}
use Rattle.journal_model.specs.Documents.{Kept}
use Rattle.journal_model.specs.History.{Owner, Made, is_among, is_sessions}
use Rattle.store_model.specs.History.{Past}

abbrev pub bytes_of : Option Kept → Option (List ℕ)
bytes_of k = option_map (λ x. x.1) k

abbrev pub AreNamed : (Owner → Option ℕ) → (ℕ → Bool) → List Made → List Past → Type 0
AreNamed names old [] [] = ⊥
AreNamed names old [] (p ∷ []) = old p.trx ≡ true
AreNamed names old [] (p ∷ q ∷ ps) = ⊥
AreNamed names old (m ∷ ms) [] = ⊥
AreNamed names old (m ∷ ms) (p ∷ ps) = (names m.owner ≡ Some p.trx) × AreNamed names old ms ps

-- a reference has the length of the bytes that its row shows
abbrev pub IsMeasured : Past → Type 0
IsMeasured p = (bytes : List ℕ) → p.bytes ≡ Some bytes → p.length ≡ length bytes

abbrev pub Shows : Past → Option Kept → Type 0
Shows p k = (p.bytes ≡ bytes_of k) × IsMeasured p

abbrev pub AreKnown : ℕ → Option Kept → List Made → List Past → Type 0
AreKnown first base ms [] = Unit {0}
AreKnown first base [] (p ∷ ps) = Shows p base
AreKnown first base (m ∷ ms) (p ∷ ps) = Shows p m.left
    × (is_among first m.owner ≡ false → AreKnown first base ms ps)

-- the same without what the newest row shows
abbrev pub AreKnownBehind : ℕ → Option Kept → List Made → List Past → Type 0
AreKnownBehind first base [] ps = Unit {0}
AreKnownBehind first base (m ∷ ms) [] = Unit {0}
AreKnownBehind first base (m ∷ ms) (p ∷ ps) = is_among first m.owner ≡ false
    → AreKnown first base ms ps

-- the same where the newest row is one of the session's
abbrev pub AreKnownOut : ℕ → ℕ → Option Kept → List Made → List Past → Type 0
AreKnownOut s first base [] ps = AreKnown first base [] ps
AreKnownOut s first base (m ∷ ms) ps = (is_sessions s m.owner ≡ false
    → AreKnown first base (m ∷ ms) ps) × AreKnownBehind first base (m ∷ ms) ps

-- what stands below the changes that are left, where these are purged in the store and not yet in
-- the journal
abbrev pub base_behind : List Made → Option Kept → Option Kept
base_behind [] base = base
base_behind (m ∷ ms) base = m.left

-- rows of the same transactions and lengths, and those that show the same down to the first of a transaction
abbrev pub SameTrx : List Past → List Past → Type 0
SameTrx [] [] = Unit {0}
SameTrx [] (q ∷ qs) = ⊥
SameTrx (p ∷ ps) [] = ⊥
SameTrx (p ∷ ps) (q ∷ qs) = ((q.trx ≡ p.trx) × (q.length ≡ p.length)) × SameTrx ps qs

abbrev pub SameTo : ℕ → List Past → List Past → Type 0
SameTo trx [] qs = Unit {0}
SameTo trx (p ∷ ps) [] = ⊥
SameTo trx (p ∷ ps) (q ∷ qs) = (q.bytes ≡ p.bytes) × ((p.trx ≢ trx) → SameTo trx ps qs)
