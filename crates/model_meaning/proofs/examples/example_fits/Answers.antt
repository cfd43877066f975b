use Rattle.model_meaning.proofs.examples.example_fits.Goals as goal
use Rattle.model_meaning.specs.FitExamples.{raise_fits, lower_fits, lowered_stays, stored_once, nothing_lowered, nothing_counted, other_fits, overlapping_stays, same_guid_stays, whole_fits, part_stays, full_stays, none_stays}

pub returns : goal.returns
returns c = record {
  raised = raise_fits;
  lowered = lower_fits;
  lowered_twice = lowered_stays;
  stored_again = stored_once;
  none_lowered = nothing_lowered;
  none_counted = nothing_counted;
  other_stored = other_fits;
  overlapping = overlapping_stays;
  same_guid = same_guid_stays;
  purged_whole = whole_fits;
  purged_part = part_stays;
  raised_full = full_stays;
  raised_none = none_stays;
}
