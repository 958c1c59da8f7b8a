-- The hashers with a seed of the system.
use Rattle.std.specs.declared.hash.DefaultHasher.{DefaultHasher}
use Rattle.std.specs.Hash.BuildHasherDefault as fixed
use Rattle.std.specs.RandomState as seeded
use Rattle.outside.specs.declared.system_seeds.SystemHasher.{SystemHasher}
use Rattle.outside.specs.declared.system_seeds.SystemHasher.TheVariants.{Seeded, Fixed}

abbrev pub initial_hasher : SystemHasher → DefaultHasher
initial_hasher (Seeded state) = seeded.initial_hasher state
initial_hasher (Fixed state) = fixed.initial_hasher state
