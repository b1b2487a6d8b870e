use Rattle.std.proofs.Common.{◌≡◌, ◌-◌, length}
use Rattle.row_locks.specs.Locks.{waits_on, circle, chain, most_sessions}
use Rattle.row_locks.specs.Tables.{table_of}
use Rattle.row_locks.proofs.ChainLemmas.{behind}
use Rattle.row_locks.proofs.chain.chain_to.Given as goal

-- what completes the chain from here completes it from the holder
abbrev pub invariant-chain : goal.invariant-chain
invariant-chain l = record {
  count : length l.sessions ≡ l.counter;
  goes_on : circle (table_of l.holders.entries l.asks) l.s.0 l.fn.holder.0
      ≡ behind l.sessions (chain (waits_on (table_of l.holders.entries l.asks)) (most_sessions - l.counter)
      l.s.0 l.at.0);
}
