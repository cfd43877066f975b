use Rattle.std.proofs.Common.{sym, refl, []}
use Rattle.request_text.specs.declared.command.Command.TheVariants as command
use Rattle.usage_text.proofs.rules.rules_of.Goals as goal

pub returns-in-init-clause-some : goal.returns-in-init-clause-some
returns-in-init-clause-some c = (command.Init (record { 0 = [] }), sym c.in-init.is, refl)

pub returns-in-rebuild-clause-some : goal.returns-in-rebuild-clause-some
returns-in-rebuild-clause-some c = (command.Rebuild (record { 0 = [] }), sym c.in-rebuild.is, refl)

pub returns-in-deliver-clause-some : goal.returns-in-deliver-clause-some
returns-in-deliver-clause-some c = (command.Deliver [], sym c.in-deliver.is, refl)

pub returns-in-list-clause-some : goal.returns-in-list-clause-some
returns-in-list-clause-some c = (command.List [], sym c.in-list.is, refl)

pub returns-in-make-clause-some : goal.returns-in-make-clause-some
returns-in-make-clause-some c = (command.Make [], sym c.in-make.is, refl)

pub returns-in-delete-clause-some : goal.returns-in-delete-clause-some
returns-in-delete-clause-some c = (command.Delete [], sym c.in-delete.is, refl)

pub returns-in-rename-clause-some : goal.returns-in-rename-clause-some
returns-in-rename-clause-some c = (command.Rename [] [], sym c.in-rename.is, refl)

pub returns-in-fetch-clause-some : goal.returns-in-fetch-clause-some
returns-in-fetch-clause-some c = (command.Fetch [] (record { 0 = 1 }), sym c.in-fetch.is, refl)

pub returns-in-expunge-clause-some : goal.returns-in-expunge-clause-some
returns-in-expunge-clause-some c = (command.Expunge [] (record { 0 = 1 }), sym c.in-expunge.is, refl)

pub returns-in-flag-clause-some : goal.returns-in-flag-clause-some
returns-in-flag-clause-some c = (command.Flag [] (record { 0 = 1 }) 0, sym c.in-flag.is, refl)

pub returns-in-copy-clause-some : goal.returns-in-copy-clause-some
returns-in-copy-clause-some c = (command.Copy [] (record { 0 = 1 }) [], sym c.in-copy.is, refl)

pub returns-in-move-clause-some : goal.returns-in-move-clause-some
returns-in-move-clause-some c = (command.Move [] (record { 0 = 1 }) [], sym c.in-move.is, refl)

pub returns-in-batch-clause-some : goal.returns-in-batch-clause-some
returns-in-batch-clause-some c = (command.Batch 1, sym c.in-batch.is, refl)

pub returns-in-exercise-clause-some : goal.returns-in-exercise-clause-some
returns-in-exercise-clause-some c = (command.Exercise 1 1 0, sym c.in-exercise.is, refl)

pub returns-in-counts-clause-some : goal.returns-in-counts-clause-some
returns-in-counts-clause-some c = (command.Counts, sym c.in-counts.is, refl)

pub returns-in-purge-clause-some : goal.returns-in-purge-clause-some
returns-in-purge-clause-some c = (command.Purge, sym c.in-purge.is, refl)

pub returns-in-resync-clause-some : goal.returns-in-resync-clause-some
returns-in-resync-clause-some c = (command.Resync, sym c.in-resync.is, refl)

pub returns-in-serve-clause-some : goal.returns-in-serve-clause-some
returns-in-serve-clause-some c = (command.Serve, sym c.in-serve.is, refl)

pub returns-in-dump-clause-some : goal.returns-in-dump-clause-some
returns-in-dump-clause-some c = (command.Dump, sym c.in-dump.is, refl)

pub returns-in-logdump-clause-some : goal.returns-in-logdump-clause-some
returns-in-logdump-clause-some c = (command.LogDump, sym c.in-logdump.is, refl)

pub returns-in-text-clause-some : goal.returns-in-text-clause-some
returns-in-text-clause-some c = (command.Help, sym c.in-text.is, refl)

pub returns-in-text-2-clause-some : goal.returns-in-text-2-clause-some
returns-in-text-2-clause-some c = (command.Version, sym c.in-text-2.is, refl)

pub returns-in-boxes-clause-some : goal.returns-in-boxes-clause-some
returns-in-boxes-clause-some c = (command.Boxes, sym c.in-boxes.is, refl)

pub returns-in-keywords-clause-some : goal.returns-in-keywords-clause-some
returns-in-keywords-clause-some c = (command.Keywords [] (record { 0 = 1 }) [], sym c.in-keywords.is, refl)
