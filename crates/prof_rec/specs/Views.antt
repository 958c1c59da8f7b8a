-- The records of the code as values of their shapes.
use Rattle.std.specs.Prelude.{ℤ, List, map}
use Rattle.schema.specs.Messages.{value_type, sample, profile, scope, scope_profiles, resource, resource_profiles}
use Rattle.schema.specs.Shape.{Value}
use Rattle.any_value.specs.Views.{attribute_view}
use Rattle.prof_rec.specs.declared.value_type.ValueType.{ValueType}
use Rattle.prof_rec.specs.declared.sample.Sample.{Sample}
use Rattle.prof_rec.specs.declared.profile.Profile.{Profile}
use Rattle.prof_rec.specs.declared.scope.Scope.{Scope}
use Rattle.prof_rec.specs.declared.scope_profiles.ScopeProfiles.{ScopeProfiles}
use Rattle.prof_rec.specs.declared.resource.Resource.{Resource}
use Rattle.prof_rec.specs.declared.resource_profiles.ResourceProfiles.{ResourceProfiles}

abbrev pub value_type_view : ValueType → Value value_type
value_type_view v = (v.type_strindex, (v.unit_strindex, tt))

-- a list of indexes or of values
abbrev pub numbers_view : List ℤ → List ℤ
numbers_view numbers = map (λ z. z) numbers

abbrev pub sample_view : Sample → Value sample
sample_view v = (v.stack_index, (numbers_view v.values, (numbers_view v.attribute_indices, (v.link_index, (v.timestamps_unix_nano, tt)))))

abbrev pub profile_view : Profile → Value profile
profile_view v = (
  value_type_view v.sample_type,
  (
    map sample_view v.samples,
    (
      v.time_unix_nano,
      (
        v.duration_nano,
        (
          value_type_view v.period_type,
          (
            v.period,
            (
              v.profile_id,
              (
                v.dropped_attributes_count,
                (v.original_payload_format, (v.original_payload, (numbers_view v.attribute_indices, tt))),
              ),
            ),
          ),
        ),
      ),
    ),
  ),
)

abbrev pub scope_view : Scope → Value scope
scope_view v = (v.name, (v.version, (map attribute_view v.attributes, (v.dropped_attributes_count, tt))))

abbrev pub scope_profiles_view : ScopeProfiles → Value scope_profiles
scope_profiles_view v = (scope_view v.scope, (map profile_view v.profiles, (v.schema_url, tt)))

abbrev pub resource_view : Resource → Value resource
resource_view v = (map attribute_view v.attributes, (v.dropped_attributes_count, (v.opaque, tt)))

abbrev pub resource_profiles_view : ResourceProfiles → Value resource_profiles
resource_profiles_view v = (resource_view v.resource, (map scope_profiles_view v.scope_profiles, (v.schema_url, tt)))
