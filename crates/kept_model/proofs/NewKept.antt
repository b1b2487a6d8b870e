-- The engine of a new store keeps all parts.
use Rattle.std.proofs.Common.{◌≡◌, ℕ, Bool, true, false, true≢false, List, [], ◌∷◌, Option, Some, None, refl, sym, arith}
use Rattle.journal_model.specs.Journal.{Script, new_store}
use Rattle.kept_model.specs.Kept.{Kept, KeptPages}
use Rattle.kept_model.specs.First.{new_engine}

-- all parts hold of the engine of a new store, whatever the script
pub kept_new : (pages : ℕ) (script : Script) → Kept (new_store pages) script new_engine
kept_new pages script = record {
  calm = record { legal = tt; commit = refl; restart = refl };
  counts = record { commits = refl; purged = refl; more = omega arith };
  consistent = record {
    well = record {
      chains = λ d. tt;
      places = λ d. tt;
      apart = λ d e other. ((λ is. absurd (cc is)), tt);
      logs = tt;
      locked = λ d. tt;
      numbered = tt;
    };
    ids = record { some = tt; logs = tt; rows = λ d. (omega arith, tt); bases = λ d. tt };
    lobs = λ n. refl;
    versions = λ d. ((λ is. absurd (cc is)), tt);
    sound = (tt, tt);
    rising = tt;
  };
  given = λ d. (omega arith, tt);
  zero = refl;
  logs = record {
    numbered = refl;
    first = tt;
    own = λ s x has. absurd (cc has);
    apart = λ s t x has has'. absurd (cc has);
    owned = λ x stand. absurd (true≢false (sym stand));
    commits = λ c x found. absurd (cc found);
    below = λ x stand. elim stand [ Rattle.std.proofs.Common.inl h ↦ absurd (true≢false (sym h)) | Rattle.std.proofs.Common.inr h ↦ absurd (true≢false (sym h)) ];
  };
  stored = λ d. record {
    ahead = [];
    gone = [];
    left = [];
    passed = [];
    changes = refl;
    is_ahead = refl;
    are_undone = refl;
    are_passed = refl;
    named = refl;
    known = (refl, λ bs is. absurd (cc is));
  };
  at = λ s. record { count = refl; at = refl; level = refl; since = λ still. refl };
  logged = λ s. record { records = refl; some = λ trx has. absurd (cc has) };
  locks = λ d. record {
    held = λ s h. absurd (true≢false (sym h));
    taken = λ s h. absurd (true≢false (sym h));
    meant = λ s h. absurd (cc h);
  };
  views = λ s. record { commits = refl; sees = λ v has. absurd (cc has) };
  reads = λ s d f h. absurd (cc h);
  making = λ s d left r h. absurd (cc h);
  fetched = λ s d f h. absurd (cc h);
}

-- and no version is held
pub pages_new : (pages : ℕ) (script : Script) → KeptPages (new_store pages) script new_engine
pages_new pages script = record {
  held = λ d. record {
    ahead = [];
    gone = [];
    left = [];
    half = [];
    passed = [];
    is = refl;
    is_ahead = refl;
    are_undone = refl;
    is_half = refl;
    are_passed = refl;
    theirs = tt;
    done = [];
    dropped = [];
    is_done = tt;
    are_dropped = tt;
    held = refl;
  };
}
