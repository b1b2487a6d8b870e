-- LOB versions: the LOB of a document's newest row has that row's version, and no entry of it is
-- newer.
--     AreUpTo v pieces      no entry's number is above v
--     HoldsAt lobs row      the row's LOB has its version, and no newer entry
--     HasVersions store      so of each live row that is the newest of its LOB: a document's own,
--         and those before changes of kind Full and Removed
use Rattle.std.specs.Prelude.{◌≡◌, ◌≤◌, ℕ, List, [], ◌∷◌, Some}
use Rattle.store_data.specs.Store.{live, Row, Version, Piece, Lob, Body, inserted, rebuilt, versioned, patched, removed, Store}
use Rattle.store_model.specs.Lobs.{lob_of}
use Rattle.store_model.specs.History.{Change, changes, row_before}

abbrev pub AreOlderUpTo : ℕ → List Version → Type 0
AreOlderUpTo v [] = Unit {0}
AreOlderUpTo v (x ∷ xs) = (x.number ≤ v) × AreOlderUpTo v xs

abbrev pub AreUpTo : ℕ → List Piece → Type 0
AreUpTo v [] = Unit {0}
AreUpTo v (p ∷ ps) = AreOlderUpTo v (p.head ∷ p.older) × AreUpTo v ps

abbrev pub HoldsAt : List Lob → Row → Type 0
HoldsAt lobs row = (l : Lob) → lob_of lobs row.lob.page ≡ Some l
    → (l.version ≡ row.lob.version) × AreUpTo row.lob.version l.pieces

-- where the row before was the newest of its LOB
abbrev pub IfNewest : Body → Type 0 → Type 0
IfNewest (inserted page) P = Unit {0}
IfNewest (rebuilt page) P = P
IfNewest (versioned pieces touched) P = Unit {0}
IfNewest (patched old) P = Unit {0}
IfNewest removed P = P

abbrev pub HoldBehind : List Lob → List Change → Type 0
HoldBehind lobs [] = Unit {0}
HoldBehind lobs (c ∷ cs) = IfNewest c.undo.body (HoldsAt lobs c.undo.before) × HoldBehind lobs cs

abbrev pub HasVersions : Store → Type 0
HasVersions store = (d : ℕ)
    → ((row_before store d).state ≡ live → HoldsAt store.lobs (row_before store d))
    × HoldBehind store.lobs (changes store d)

-- a Versioned record may end its undoing once no entry is above the version before
abbrev pub IsLowered : Body → Row → List Lob → Type 0
IsLowered (inserted page) before lobs = Unit {0}
IsLowered (rebuilt page) before lobs = Unit {0}
IsLowered (versioned pieces touched) before lobs =
    (l : Lob) → lob_of lobs before.lob.page ≡ Some l → AreUpTo before.lob.version l.pieces
IsLowered (patched old) before lobs = Unit {0}
IsLowered removed before lobs = Unit {0}
