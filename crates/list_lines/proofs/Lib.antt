pub mod LastFeedLaws
