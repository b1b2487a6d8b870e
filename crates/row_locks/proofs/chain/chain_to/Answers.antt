use Rattle.std.proofs.Common.{◌≡◌, ◌≢◌, ◌<◌, ◌+◌, ◌-◌, [], ◌∷◌, ℕ, Option, Some, sym, ap, ◌∙◌, refl, arith, length-append}
use Rattle.std.proofs.lemmas.Bool.{eqb-true, eqb-false}
use Rattle.row_locks.specs.Locks.{waits_on, chain, most_sessions}
use Rattle.row_locks.specs.Tables.{number_of, table_of}
use Rattle.row_locks.proofs.ChainLemmas.{behind_none, most_are, chain_ends, chain_goes_on, chain_breaks, chain_is_out}
use Rattle.row_locks.proofs.chain.chain_to.Goals as goal

pub chain-init : goal.chain-init
unfolding most_sessions
chain-init c =
    let next : ℕ → Option ℕ = waits_on (table_of c.args.holders.now.entries c.args.asks.now) in
    rw c.new-sessions.ensures (record {
      count = refl;
      goes_on = sym (behind_none (chain next most_sessions c.args.s.0 c.args.holder.0));
    })

pub returns-then-eq : goal.returns-then-eq
returns-then-eq c =
    let next : ℕ → Option ℕ = waits_on (table_of c.args.holders.now.entries c.args.asks.now) in
    let same : c.chain.at.0 ≡ c.args.s.0 =
    eqb-true c.chain.at.0 c.args.s.0 (sym c.eq.ensures ∙ c.if-eq.true) in
    let some : 0 < most_sessions - c.chain.counter = omega (arith, most_are, c.chain-test.true) in
    ap (λ x. Some x) c.push.ensures
    ∙ sym (chain_ends next (most_sessions - c.chain.counter) c.args.s.0 c.chain.at.0
    c.chain.sessions some same) ∙ sym c.chain.invariant.goes_on

pub returns-in_default : goal.returns-in_default
returns-in_default c =
    let next : ℕ → Option ℕ = waits_on (table_of c.args.holders.now.entries c.args.asks.now) in
    let other : c.chain.at.0 ≢ c.args.s.0 =
    eqb-false c.chain.at.0 c.args.s.0 (sym c.eq.ensures ∙ c.if-eq.false) in
    sym (c.chain.invariant.goes_on ∙ chain_breaks next (most_sessions - c.chain.counter)
    c.args.s.0 c.chain.at.0 c.chain.sessions other
    (sym c.next_of.ensures ∙ ap number_of c.in_default.is))

pub chain-preserved : goal.chain-preserved
chain-preserved c =
    let next : ℕ → Option ℕ = waits_on (table_of c.args.holders.now.entries c.args.asks.now) in
    let other : c.chain.at.0 ≢ c.args.s.0 =
    eqb-false c.chain.at.0 c.args.s.0 (sym c.eq.ensures ∙ c.if-eq.false) in
    let some : 0 < most_sessions - c.chain.counter = omega (arith, most_are, c.chain-test.true) in
    let less : most_sessions - (c.chain.counter + 1) ≡ most_sessions - c.chain.counter - 1 =
    omega arith in
    rw c.push.ensures (rw less (record {
      count = length-append c.chain.sessions (c.chain.at.0 ∷ [])
          ∙ ap (λ n. n + 1) c.chain.invariant.count;
      goes_on = c.chain.invariant.goes_on ∙ chain_goes_on next (most_sessions - c.chain.counter)
          c.args.s.0 c.chain.at.0 c.in-Some.next.0 c.chain.sessions some other
          (sym c.next_of.ensures ∙ ap number_of c.in-Some.is);
    }))

pub returns : goal.returns
returns c =
    let next : ℕ → Option ℕ = waits_on (table_of c.args.holders.now.entries c.args.asks.now) in
    sym (c.chain.invariant.goes_on ∙ chain_is_out next (most_sessions - c.chain.counter)
    c.args.s.0 c.chain.at.0 c.chain.sessions (omega (arith, most_are, c.chain-test.false)))
