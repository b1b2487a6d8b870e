use Rattle.std.proofs.Common.{ℕ, ◌+◌, ◌-◌, [], ◌∙◌, arith}
use Rattle.page_model.proofs.StepLemmas.{may_within, uses_within, uses_at_most}
use Rattle.file_lists.proofs.LinkLemmas.{handed_on}
use Rattle.read_model.specs.Steps.{step}
use Rattle.read_model.specs.OfStore.{document}
use Rattle.read_views.specs.Flights.{flight_of}
use Rattle.version_read.proofs.WalkLemmas.{reading_on, one_on, walk_ends}
use Rattle.version_read.proofs.walk.put_records.Goals as goal

pub put_one-requires-clause-may : goal.put_one-requires-clause-may
put_one-requires-clause-may g c =
    let t = c.records-test.true in
    may_within [] [] 8 0 c.records._n 0 1 0 _ _ (λ n is. is) (omega (arith, t)) (omega arith)
    c.requires.may c.records.invariant.uses

pub returns-in_err-put_one-clause-never : goal.returns-in_err-put_one-clause-never
returns-in_err-put_one-clause-never g c = λ pages store sees shown reading.
    let i = c.records.invariant in
    let d : ℕ = c.args.flight.now.doc.0 in
    let al = i.value pages store sees shown reading in
    handed_on c.put_one.result _ _ (c.put_one.ensures.never pages store d sees shown
    (reading_on _ _ pages store d sees shown _ (flight_of c.records.flight) i.told reading al.kept))
    c.in_err-put_one.was c.from_residual.ensures

pub returns-in_err-put_one-clause-uses : goal.returns-in_err-put_one-clause-uses
returns-in_err-put_one-clause-uses g c =
    let t = c.records-test.true in
    let n : ℕ = c.records._n in
    uses_at_most [] (n + 1) 0 8 0 _ _ (omega (arith, t)) (omega arith)
    (uses_within g.P.Pages.stays_on [] [] n 0 1 0 _ _ _ (λ m is. is) c.records.invariant.uses
    c.put_one.ensures.uses)

pub records-preserved : goal.records-preserved
records-preserved g c =
    let i = c.records.invariant in
    let d : ℕ = c.args.flight.now.doc.0 in
    let n : ℕ = c.records._n in
    let t = c.records-test.true in
    let o = c.put_one.ensures.of in
    record {
      of = record {
        view = o.view ∙ i.of.view;
        doc = o.doc ∙ i.of.doc;
        phase = o.phase ∙ i.of.phase;
        piece = o.piece ∙ i.of.piece;
        head = o.head ∙ i.of.head;
        from = o.from ∙ i.of.from;
        buffer = o.buffer ∙ i.of.buffer;
      };
      told = c.put_one.ensures.told ∙ i.told;
      faults = omega (arith, i.faults, c.put_one.ensures.cause.later);
      uses = uses_within g.P.Pages.stays_on [] [] n 0 1 0 _ _ _ (λ m is. is) i.uses
          c.put_one.ensures.uses;
      value = λ pages store sees shown reading.
          let al = i.value pages store sees shown reading in
          let on = c.in_ok-put_one.ensures.puts pages store d sees shown
          (reading_on _ _ pages store d sees shown _ (flight_of c.records.flight) i.told reading
          al.kept) in
          one_on sees (document store d) shown (8 - n) (8 - (n + 1))
          (step sees (document store d) (flight_of c.args.flight.now)) (flight_of c.records.flight)
          (flight_of c.put_one.new.flight) (omega (arith, t)) al on;
    }

pub returns-clause-puts : goal.returns-clause-puts
returns-clause-puts g c = λ pages store sees shown reading.
    let d : ℕ = c.args.flight.now.doc.0 in
    let t = c.records-test.false in
    let al = c.records.invariant.value pages store sees shown reading in
    walk_ends _ pages store d sees shown (8 - c.records._n) (flight_of c.args.flight.now)
    (flight_of c.records.flight) (flight_of c.end_where_none_is_left.new.flight) reading
    (omega (arith, t)) al (c.end_where_none_is_left.ensures.ends (document store d))
