-- The logs of a rebuilt store, before they are written.
use Rattle.std.specs.Prelude.{◌≡◌, ◌+◌, ℕ, Bool, true, false, if◌then◌else◌, List, [], ◌∷◌, ◌++◌, map}
use Rattle.std.specs.Str.{bytes_eq}
use Rattle.mdbox_base.specs.declared.entries.BoxEntry.TheVariants as box
use Rattle.mdbox_base.specs.declared.entries.RootEntry.TheVariants as root
use Rattle.model_logs.specs.Entries.{root_text, map_text, box_text}
use Rattle.model_rebuild.specs.RebuildPlan.{RebuildPlan}
use Rattle.model_rebuild.specs.RebuiltLogs.{rebuilt_map, rebuilt_box}
use Rattle.model_taken.specs.Taken.{TakenMessage, mailboxes_met}
use Rattle.rebuild_judge.specs.declared.taken.TakenRow.{TakenRow}
use Rattle.store_rebuild.specs.declared.new_logs.NewLogs.{NewLogs}

-- the texts of the entries of each mailbox's log
abbrev pub box_logs_for : List (List ℕ) → List TakenMessage → List (List (List ℕ))
box_logs_for names taken = map (λ name. map box_text (rebuilt_box name taken)) names

-- The entries of a mailbox log, with that of this message under this UID and map uid, if it goes to the mailbox with this name; and the next UID.
abbrev pub with_entry : Bool → ℕ → ℕ → TakenRow → List (List ℕ) → List (List ℕ)
with_entry true uid map_uid row draft = draft ++ box_text (box.A (record { 0 = uid }) 0 row.time row.whole (record { 0 = map_uid }) row.guid []) ∷ []
with_entry false uid map_uid row draft = draft

abbrev pub IsWithMessage : List ℕ → ℕ → ℕ → TakenRow → List (List ℕ) → List (List ℕ) → ℕ → Type 0
IsWithMessage name uid map_uid row draft more next =
    (more ≡ with_entry (bytes_eq row.mailbox name) uid map_uid row draft) × (next ≡ (if bytes_eq row.mailbox name then uid + 1 else uid))

-- These are the logs of a plan, each by the texts of its entries.
pub record AreNewLogs (plan : RebuildPlan) (logs : NewLogs) : Type 0 where
  pub boxes : logs.boxes.items ≡ box_logs_for (mailboxes_met plan.taken) plan.taken
  pub map_log : logs.map_log ≡ map map_text (rebuilt_map plan.highest plan.box_generation plan.taken plan.skipped)
  pub root_log : logs.root_log ≡ root_text (root.M plan.map_generation) ∷ []
