-- The words of this crate that others cite most, passed on from one place. Declares nothing.
pub use Rattle.geo_features.specs.Back.{IsFeatureBack, IsRingBack, feature_parts, members_back, place_of, ring_back}
pub use Rattle.geo_text.specs.Exported.{IsRefused, IsSent, IsUnwritten, SendsGiven, TookAll, TookSome}
pub use Rattle.geo_features.specs.Faults.{GeoFault, few_decimals, nested, no_layer, of_map, point_not_whole}
pub use Rattle.geo_features.specs.Faults.{point_out_of_range, several_layers}
pub use Rattle.geo_features.specs.Gives.{Appends, Gives, IsGeoFault, IsMapFault, IsSendFault, of_device}
pub use Rattle.geo_text.specs.Places.{in_map, placed, point_place}
pub use Rattle.geo_text.specs.Text.{decimals_for, geo_text, longest_side, style_of}
pub use Rattle.geo_features.specs.Style.{Style}
pub use Rattle.geo_text.specs.Wants.{Wants, view_asked}
