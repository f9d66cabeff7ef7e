-- What the reader's answer says: the numbers of the device that its bytes read as.
use Rattle.std.specs.Prelude.{Result, Ok, Err}
use Rattle.answers.specs.Check.{Check, ok, refused}
use Rattle.answers.specs.declared.Refusal.{Refusal}
use Rattle.rules.specs.declared.device.DeviceHeader.{DeviceHeader}
use Rattle.device.specs.declared.file.DeviceFile.{DeviceFile}

abbrev pub file_said : Result DeviceFile Refusal → Check DeviceHeader
file_said (Ok f) = ok f.header
file_said (Err r) = refused r
