-- What of the script's grammar a program takes, as one table. A line of another form has cause
-- `word`, a session past the last `session`.
--     everything      the whole grammar
--     alone      one session, each of whose statements is made by itself
use Rattle.std.specs.Prelude.{ℕ, Bool, true, false}
use Rattle.journal_model.specs.Journal.{max_session}

pub record Built : Type 0 where
  -- the greatest session
  pub sessions : ℕ
  -- `sK& ..`
  pub marks : Bool
  -- `begin`, `commit`, `rollback`
  pub transactions : Bool
  pub steps : Bool
  -- `.purge`, and the purge that runs by itself
  pub purges : Bool
  pub checkpoints : Bool
  pub audits : Bool
  pub restarts : Bool

abbrev pub everything : Built
everything = record {
  sessions = max_session;
  marks = true;
  transactions = true;
  steps = true;
  purges = true;
  checkpoints = true;
  audits = true;
  restarts = true;
}

abbrev pub alone : Built
alone = record {
  sessions = 1;
  marks = false;
  transactions = false;
  steps = false;
  purges = false;
  checkpoints = false;
  audits = false;
  restarts = false;
}
