-- What well-formed stores keep, event by event.
--     Restores u old new      the history of the record's document is the one before its change,
--         or nothing was shown before and nothing is now
--     KeepsUnder n old new      under each number of commits from n on, each document is as before
--     IsVersioned, Makes, Frees      a change is of kind Versioned; it makes this LOB; its purge
--         frees the LOB before it
use Rattle.std.specs.Prelude.{◌≡◌, ◌≤◌, ◌⊎◌, ℕ, [], ◌∷◌, None}
use Rattle.store_data.specs.Store.{Body, inserted, rebuilt, versioned, patched, removed, Record, Store}
use Rattle.store_model.specs.History.{history, under}
use Rattle.store_model.specs.Steps.{all_but_first}

abbrev pub Restores : Record → Store → Store → Type 0
Restores u old new =
    (history new u.doc ≡ all_but_first (history old u.doc))
    ⊎ ((history new u.doc ≡ record { trx = 0; length = 0; bytes = None } ∷ [])
    × (all_but_first (history old u.doc) ≡ record { trx = u.before.trx; length = u.before.lob.length; bytes = None } ∷ []))

abbrev pub IsVersioned : Body → Type 0
IsVersioned (inserted page) = ⊥
IsVersioned (rebuilt page) = ⊥
IsVersioned (versioned pieces touched) = Unit {0}
IsVersioned (patched old) = ⊥
IsVersioned removed = ⊥

abbrev pub Makes : ℕ → Body → Type 0
Makes page (inserted q) = q ≡ page
Makes page (rebuilt q) = q ≡ page
Makes page (versioned pieces touched) = ⊥
Makes page (patched old) = ⊥
Makes page removed = ⊥

abbrev pub Frees : Body → Type 0
Frees (inserted page) = ⊥
Frees (rebuilt page) = Unit {0}
Frees (versioned pieces touched) = ⊥
Frees (patched old) = ⊥
Frees removed = Unit {0}

-- the documents under a number of commits stay, from n commits on
abbrev pub KeepsUnder : ℕ → Store → Store → Type 0
KeepsUnder n old new = (d k : ℕ) → n ≤ k → under new d k ≡ under old d k
