-- What an opening or a rebuild answers, as the end of a run.
use Rattle.request_text.specs.declared.outcome.Outcome.{Outcome}
use Rattle.request_text.specs.declared.outcome.Outcome.TheVariants as outcome
use Rattle.request_text.specs.declared.outcome.StoreRefusal.{StoreRefusal}
use Rattle.request_text.specs.declared.outcome.StoreRefusal.TheVariants as store
use Rattle.rebuild_files.specs.declared.error.RebuildError.{RebuildError}
use Rattle.rebuild_files.specs.declared.error.RebuildError.TheVariants as rebuild
use Rattle.store_open.specs.declared.error.OpenError.{OpenError}
use Rattle.store_open.specs.declared.error.OpenError.TheVariants as error

abbrev pub opening_outcome : OpenError → Outcome
opening_outcome error.NoStore = outcome.StoreRefused store.NoStore
opening_outcome error.StoreWhole = outcome.StoreRefused store.StoreWhole
opening_outcome error.MailFiles = outcome.StoreRefused store.MailFiles
opening_outcome (error.Damaged name place) = outcome.StoreRefused (store.Damaged name place)
opening_outcome error.DiskFault = outcome.DiskFault
opening_outcome error.NoMemory = outcome.NoMemory

-- a refusal, as the opening answers it
abbrev pub opening_error : StoreRefusal → OpenError
opening_error store.NoStore = error.NoStore
opening_error store.StoreWhole = error.StoreWhole
opening_error store.MailFiles = error.MailFiles
opening_error (store.Damaged name place) = error.Damaged name place

-- why a store was not rebuilt, as the end of a run
abbrev pub rebuild_outcome : RebuildError → Outcome
rebuild_outcome rebuild.StoreWhole = outcome.StoreRefused store.StoreWhole
rebuild_outcome rebuild.DiskFault = outcome.DiskFault
rebuild_outcome rebuild.NoMemory = outcome.NoMemory
