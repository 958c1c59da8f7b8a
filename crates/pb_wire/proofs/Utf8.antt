-- The bytes of a string are UTF-8.
use Rattle.std.proofs.Common.{◌≡◌, true, string_bytes}
use Rattle.std.proofs.lemmas.Str.{IsUtf8-string_bytes, is_utf8-from_IsUtf8}
use Rattle.std.specs.Str.{is_utf8}
use Rattle.std.specs.Prelude.{String}

pub string_is_text : {Z : Type 0} (s : String Z) → is_utf8 (string_bytes s) ≡ true
string_is_text s = is_utf8-from_IsUtf8 (string_bytes s) (IsUtf8-string_bytes s)
