-- The free pages that a refusal tells, where pages in use are within the ceiling.
use Rattle.std.proofs.Common.{◌≡◌, ℕ, ◌+◌, ◌-◌, ◌≤◌, Bool, true, false, true≢false, nat_eq, List, [], ◌∷◌, ◌++◌, map, if◌then◌else◌, length, Some, None, refl, sym, ap, subst, arith, ◌||◌}
use Rattle.std.proofs.lemmas.List.{length-append, length-map}
use Rattle.journal_model.specs.Journal.{Script, Opening, new_store}
use Rattle.journal_model.specs.Held.{is_in, total, versions_in}
use Rattle.journal_model.specs.Locks.{sessions}
use Rattle.journal_model.specs.Ceiling.{need_now, needs, ceiling}
use Rattle.history_model.proofs.CeilingLemmas.{ceiling_apart}
use Rattle.store_model.specs.Owned.{owned, data_page, data_pages, piece_pages, rest_of}
use Rattle.store_data.specs.Store.{Version, Piece, Lob}
use Rattle.kept_model.specs.Held.{numbers_of, held_lob}
use Rattle.read_model.specs.Flight.{Flight}
use Rattle.kept_model.specs.Engine.{fetching, Engine}
use Rattle.kept_model.specs.First.{new_engine}
use Rattle.kept_model.specs.Room.{reserved_pages, if_unplanned, asked_pages, IsRoomy, free_pages}

-- one of them is no more than all
one_of : (f : ℕ → ℕ) (s : ℕ) (ss : List ℕ) → is_in s ss ≡ true → f s ≤ total f ss
one_of f s [] h = absurd (true≢false (sym h))
one_of f s (t ∷ ts) h = by_test (nat_eq t s) refl h (one_of f s ts)
  where
    by_test : (b : Bool) → nat_eq t s ≡ b → (b || is_in s ts) ≡ true → (is_in s ts ≡ true → f s ≤ total f ts) → f s ≤ f t + total f ts
    by_test true e g rest = let same : t ≡ s = grind (arith, e) in let v : f t ≡ f s = ap f same in omega (arith, v)
    by_test false e g rest = let r = rest g in omega (arith, r)

pub free_is_told : (o : Opening) (script : Script) (e : Engine) → IsRoomy o script e → (s d : ℕ) (read : Flight) → (e.sessions s).task ≡ fetching d read → 1 ≤ s → s ≤ 64 → is_in s sessions ≡ true
    → o.pages - ceiling o script (Some s) e.journal ≤ free_pages o e
free_is_told o script e room s d read task low high numbered =
    let apart = ceiling_apart o script s e.journal low high in
    let mine : need_now o script e.journal s ≤ asked_pages o script e =
    subst (λ (n : ℕ). n ≤ asked_pages o script e) (ap (λ k. if_unplanned k (need_now o script e.journal s)) task)
    (one_of (λ t. if_unplanned (e.sessions t).task (need_now o script e.journal t)) s sessions numbered) in
    less o.pages (length (owned e.store)) (reserved_pages e.sessions) (asked_pages o script e) (ceiling o script None e.journal) (ceiling o script (Some s) e.journal) (need_now o script e.journal s) room apart mine
  where
    less : (pages used reserved asked most apart need : ℕ) → used + reserved + asked ≤ most → most ≡ apart + need → need ≤ asked → pages - apart ≤ pages - (used + reserved)
    less pages used reserved asked most apart need a b c = omega (arith, a, b, c)

-- a new store has one page in use
none_asked : (f : ℕ → ℕ) (ss : List ℕ) → ((s : ℕ) → f s ≡ 0) → total f ss ≡ 0
none_asked f [] same = refl
none_asked f (s ∷ ss) same = let a : f s ≡ 0 = same s in let b : total f ss ≡ 0 = none_asked f ss same in omega (arith, a, b)

pub room_new : (pages : ℕ) (script : Script) → IsRoomy (new_store pages) script new_engine
room_new pages script =
    let a : reserved_pages new_engine.sessions ≡ 0 = none_asked (λ s. 0) sessions (λ s. refl) in
    let b : asked_pages (new_store pages) script new_engine ≡ 0 = none_asked (λ s. 0) sessions (λ s. refl) in
    low (reserved_pages new_engine.sessions) (asked_pages (new_store pages) script new_engine) 0 0 0 (needs (new_store pages) script None sessions []) a b
  where
    low : (r q a b c d : ℕ) → r ≡ 0 → q ≡ 0 → 1 + r + q ≤ 1 + a + b + c + d
    low r q a b c d x y = omega (arith, x, y)

-- ---- a LOB's pages

one_page : (first : ℕ) (v : Version) → length (data_page first v) ≤ 1
one_page first v = by_test (nat_eq v.page first)
  where
    by_test : (b : Bool) → length (if b then [] else v.page ∷ []) ≤ 1
    by_test true = omega arith
    by_test false = omega arith

version_pages : (first : ℕ) (vs : List Version) → length (data_pages first vs) ≤ length vs
version_pages first [] = omega arith
version_pages first (v ∷ vs) =
    let a : length (data_pages first (v ∷ vs)) ≡ length (data_page first v) + length (data_pages first vs) = length-append (data_page first v) (data_pages first vs) in
    let b = one_page first v in
    let c = version_pages first vs in
    omega (arith, a, b, c)

pieces_few : (first : ℕ) (ps : List Piece) → length (piece_pages first ps) ≤ total length (map numbers_of ps)
pieces_few first [] = omega arith
pieces_few first (p ∷ ps) =
    let a : length (piece_pages first (p ∷ ps)) ≡ length (data_pages first (p.head ∷ p.older)) + length (piece_pages first ps) = length-append (data_pages first (p.head ∷ p.older)) (piece_pages first ps) in
    let b = version_pages first (p.head ∷ p.older) in
    let c = pieces_few first ps in
    let d : length (map (λ (v : Version). v.number) p.older) ≡ length p.older = length-map p.older (λ (v : Version). v.number) in
    omega (arith, a, b, c, d)

pub lob_pages_are_few : (l : Lob) → length (rest_of (Some l)) ≤ length l.index + versions_in (held_lob l)
lob_pages_are_few l =
    let a : length (l.index ++ piece_pages l.page l.pieces) ≡ length l.index + length (piece_pages l.page l.pieces) = length-append l.index (piece_pages l.page l.pieces) in
    let b = pieces_few l.page l.pieces in
    omega (arith, a, b)
