use Rattle.std.proofs.Common.{◌≡◌, ℕ, ◌+◌, ◌-◌, ◌<◌, ◌∙◌, sym, ap, min, List, [], ◌++◌, length, take, drop, arith}
use Rattle.std.proofs.lemmas.Grind.{common_steps}
use Rattle.std.proofs.lemmas.List.{take_at, drop_all, drop-drop, take-append-drop, places}
use Rattle.mem_disk.specs.Streams.{Reading}
use Rattle.mem_disk.proofs.source.MemSourceSource.read.Goals as goal

-- the bytes behind a place are those that a read gives and those behind them
front_and_rest : (bytes into part : List ℕ) (at count : ℕ) → part ≡ take count (drop at bytes) → length part ≡ count
    → drop at bytes ≡ take count (part ++ drop count into) ++ drop (at + count) bytes
front_and_rest bytes into part at count is len =
    let front : take count (part ++ drop count into) ≡ part = take_at part (drop count into) count len in
    let rest : drop count (drop at bytes) ≡ drop (at + count) bytes = drop-drop count at bytes in
    rw (front, is, ← rest) (sym (take-append-drop count (drop at bytes)))

-- none was read into a piece that isn't empty only where none is left
none_at_the_end : (bytes into part : List ℕ) (at count : ℕ) → count ≡ min (length into) (length bytes - at) → length part ≡ count
    → count ≡ 0 → 0 < length (part ++ drop count into) → drop (at + count) bytes ≡ []
none_at_the_end bytes into part at count is len none some =
    let long : length (part ++ drop count into) ≡ length part + (length into - count) = search (arith, places) in
    drop_all (at + count) bytes (omega arith)

pub returns-clause-bytes : goal.returns-clause-bytes
returns-clause-bytes c =
    let bytes = c.self.inside.bytes.items in
    let part : c.copy_from_slice.new.self ≡ take c.min-count.result (drop c.self.inside.at bytes) = grind (arith, common_steps) in
    let count : c.min-count.result ≡ min (length c.args.into.now) (length bytes - c.self.inside.at) = grind (arith, common_steps) in
    let len : length c.copy_from_slice.new.self ≡ c.min-count.result = grind (arith, common_steps) in
    (ap (λ (r : Reading). r.left) (sym c.self.view_is) ∙ front_and_rest bytes c.args.into.now _ c.self.inside.at _ part len, none_at_the_end bytes c.args.into.now _ c.self.inside.at _ count len)
