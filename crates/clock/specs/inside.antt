pub mod QuickWay
