-- What the system's errors mean.
use Rattle.std.specs.declared.io.ErrorKind.{ErrorKind}
use Rattle.std.specs.declared.io.ErrorKind.TheVariants as kind
use Rattle.folder_model.specs.declared.folder.CallError.{CallError}
use Rattle.folder_model.specs.declared.folder.CallError.TheVariants.{Interrupted, Failed}

-- a signal came before anything was done, or the call has failed
abbrev pub call_error : ErrorKind → CallError
call_error kind.Interrupted = Interrupted
call_error _ = Failed

-- The path leads to nothing: a part of it isn't there, or is a file, or it is a circle of links.
abbrev pub IsNoSuchPath : ErrorKind → Type 0
IsNoSuchPath kind.NotFound = Unit {0}
IsNoSuchPath kind.NotADirectory = Unit {0}
IsNoSuchPath kind.FilesystemLoop = Unit {0}
IsNoSuchPath _ = ⊥
