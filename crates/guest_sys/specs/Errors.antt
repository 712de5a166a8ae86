-- The numbers of errors. Source: errno of Linux.
use Rattle.std.specs.Prelude.{ℕ}
use Rattle.guest_sys.specs.declared.answers.Error.{Error}
use Rattle.guest_sys.specs.declared.answers.Error.TheVariants as error

abbrev pub errno : Error → ℕ
errno error.BadFile = 9
errno error.TryAgain = 11
errno error.NoRoom = 12
errno error.Denied = 13
errno error.BadAddress = 14
errno error.Invalid = 22
errno error.NoTerminal = 25
errno error.NotServed = 38
