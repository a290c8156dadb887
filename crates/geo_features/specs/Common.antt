-- The words of this crate that others cite most, passed on from one place. Declares nothing.
pub use Rattle.geo_features.specs.Back.{IsFeatureBack, IsRingBack, feature_parts, members_back, place_of, ring_back}
pub use Rattle.geo_features.specs.Faults.{GeoFault, few_decimals, nested, no_layer, of_map, point_not_whole}
pub use Rattle.geo_features.specs.Faults.{point_out_of_range, several_layers}
pub use Rattle.geo_features.specs.Features.{collection_begin, collection_end, feature_begin, leaf_geometry, own_text}
pub use Rattle.geo_features.specs.Features.{point_geometry}
pub use Rattle.geo_features.specs.Gives.{Appends, Gives, IsGeoFault, IsMapFault, IsSendFault, of_device}
pub use Rattle.geo_features.specs.Style.{Style}
