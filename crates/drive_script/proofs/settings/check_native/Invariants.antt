use Rattle.std.proofs.Common.{◌≡◌, map, drop}
use Rattle.drive_script.specs.Settings.{refused_native}
use Rattle.drive_script.specs.Texts.{native_of}
use Rattle.drive_script.proofs.settings.check_native.Given as goal

-- the first line that is refused is one of those to come
abbrev pub invariant-loop-line : goal.invariant-loop-line
invariant-loop-line l = refused_native (map native_of l.lines) ≡ refused_native (map native_of (drop l.line-index l.lines))
